-- The sums of the wall of a cut: the piece of the development that it follows, swept along the
-- radius.
use Rattle.std.specs.Prelude.{Float}
use Rattle.checked.specs.Checked.{Checked, ◌>>=◌, given}
use Rattle.vectors.specs.declared.Vec3.{Vec3}
use Rattle.integrals.specs.declared.SurfaceIntegrals.{SurfaceIntegrals}
use Rattle.integrals.specs.declared.Integrals.{Integrals}
use Rattle.integrals.specs.Gauss.{along_c}
use Rattle.piece_curves.specs.declared.PieceCurve.{PieceCurve}
use Rattle.pieces.specs.declared.Rolled.{Rolled}
use Rattle.pieces.specs.Pieces.{run_c}
use Rattle.piece_lengths.specs.Counts.{quadrature_c}
use Rattle.piece_curves.specs.Points.{at_c}
use Rattle.walls.specs.declared.Strip.{Strip}
use Rattle.walls.specs.Walls.{strip_c, node_c}

-- the sums after all radii at t, on a panel of length h
unfoldable pub node_at_c : Strip → PieceCurve → Float → Float → Float → SurfaceIntegrals → Checked SurfaceIntegrals
node_at_c v r h wt t s = do
  q ← at_c r t
  node_c v q.p q.d h wt s

-- `wall`: the piece and its panels, then the wall's radii, then the sums. But for an angle that
-- is too large on the way to the count, all that is refused before the first station is refused by
-- 9.
unfoldable pub wall_c : Rolled → Float → Float → Vec3 → Integrals → Checked Integrals
wall_c p r0 r1 o s = do
  r ← run_c p
  n ← quadrature_c r
  v ← strip_c p.dev r0 r1 o
  t ← along_c (node_at_c v r) n s.surface
  given (record { surface = t })
