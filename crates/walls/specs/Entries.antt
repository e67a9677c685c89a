-- What `wall` is due to answer: the numbers handed in are tried, then the neutral radius, the piece
-- and the sums, then the formula is worked out.
use Rattle.std.specs.Prelude.{ℕ, Bool, not, ◌&&◌, Float}
use Rattle.checked.specs.Refusals.{OUT_OF_RANGE, ARC_AND_TRACE, BAD_BOX_OR_SUMS}
use Rattle.checked.specs.Checked.{Due, answered}
use Rattle.checked.specs.Tests.{fails, ◌or◌, passing, neutral_test}
use Rattle.vectors.specs.declared.Vec3.{Vec3}
use Rattle.vectors.specs.Vectors.{plane, within2, within3}
use Rattle.pieces.specs.declared.Rolled.{Rolled}
use Rattle.pieces.specs.Tests.{both}
use Rattle.pieces.specs.Entries.{piece_within}
use Rattle.integrals.specs.declared.Integrals.{Integrals}
use Rattle.integrals.specs.Sums.{finite_sums}
use Rattle.walls.specs.CutWalls.{wall_c}

module _ (p : Rolled) (r0 r1 : Float) (o : Vec3) where
  -- every number handed in but for the sums
  unfoldable pub wall_within : Bool
  wall_within = piece_within p && (within2 (plane r0 r1) && within3 o)

  -- the number of the test that fails first
  unfoldable pub wall_tests : Integrals → ℕ
  wall_tests acc = fails OUT_OF_RANGE wall_within or neutral_test p.dev.neutral or fails ARC_AND_TRACE (not (both p.arc p.trace)) or fails BAD_BOX_OR_SUMS (finite_sums acc)

  -- `wall`
  unfoldable pub wall_due : Integrals → Due Integrals
  wall_due acc = passing (wall_tests acc) (answered (wall_c p r0 r1 o acc))
