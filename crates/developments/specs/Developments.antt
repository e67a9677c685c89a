-- The development of a cylinder, and what its entries are due to answer.
use Rattle.std.specs.Prelude.{Bool, ◌&&◌, Float}
use Rattle.checked.specs.Refusals.{OUT_OF_RANGE}
use Rattle.checked.specs.Checked.{Checked, ◌>>=◌, given, within, Due, answered}
use Rattle.checked.specs.Tests.{fails, ◌or◌, passing, neutral_test}
use Rattle.motions.specs.declared.Rigid.{Rigid}
use Rattle.motions.specs.Motions.{within_rigid, apply_c, apply_vector_c}
use Rattle.vectors.specs.declared.Vec2.{Vec2}
use Rattle.vectors.specs.declared.Vec3.{Vec3}
use Rattle.vectors.specs.Vectors.{within2, within3}
use Rattle.developments.specs.declared.formulas.Unrolled.{Unrolled}
use Rattle.developments.specs.Formulas.{radial_at_c, point_c, along_c, unroll_c}
use Rattle.developments.specs.declared.Development.{Development}

-- the development moved by m
unfoldable pub moved_c : Development → Rigid → Checked Development
moved_c d m = do
  o ← apply_c m d.origin
  a ← apply_vector_c m d.axis
  s ← apply_vector_c m d.start
  given (record { origin = o; axis = a; start = s; neutral = d.neutral })

-- ---- what is tried of a development
unfoldable pub development_within : Development → Bool
development_within d = within3 d.origin && (within3 d.axis && (within3 d.start && within d.neutral))

-- ---- what is due
-- `Development::radial`
unfoldable pub radial_due : Development → Float → Due Vec3
radial_due d u = passing (fails OUT_OF_RANGE (development_within d && within u) or neutral_test d.neutral) (answered (radial_at_c d.axis d.start d.neutral u))

-- `Development::point`
unfoldable pub point_due : Development → Vec2 → Float → Due Vec3
point_due d p r = passing (fails OUT_OF_RANGE (development_within d && (within2 p && within r)) or neutral_test d.neutral) (answered (point_c d.origin d.axis d.start d.neutral p r))

-- `Development::along`
unfoldable pub along_due : Development → Vec2 → Vec2 → Float → Due Vec3
along_due d p v r = passing (fails OUT_OF_RANGE (development_within d && (within2 p && (within2 v && within r))) or neutral_test d.neutral) (answered (along_c d.axis d.start d.neutral p v r))

-- `Development::unroll`
unfoldable pub unroll_due : Development → Vec3 → Float → Due Unrolled
unroll_due d q near = passing (fails OUT_OF_RANGE (development_within d && (within3 q && within near)) or neutral_test d.neutral) (answered (unroll_c d.origin d.axis d.start d.neutral q near))

-- `Development::moved`
unfoldable pub moved_due : Development → Rigid → Due Development
moved_due d m = passing (fails OUT_OF_RANGE (development_within d && within_rigid m) or neutral_test d.neutral) (answered (moved_c d m))
