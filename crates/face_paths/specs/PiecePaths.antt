-- A piece of a development as a path on a cylinder: θ turns with u, the other way where the
-- development's axis is against the cylinder's.
use Rattle.std.specs.Prelude.{Float}
use Rattle.checked.specs.Checked.{Checked, ◌>>=◌, given, num, ◌⊕◌, ◌⊗◌, ◌⊘◌}
use Rattle.vectors.specs.declared.Vec3.{Vec3}
use Rattle.vectors.specs.Vectors.{vec, ◌⊟◌, ◌⊡◌}
use Rattle.profile_arcs.specs.Angles.{atan2_c}
use Rattle.cones.specs.declared.Frame.{Frame}
use Rattle.integrals.specs.Sums.{side}
use Rattle.integrals.specs.declared.integrands.PathPoint.{PathPoint}
use Rattle.piece_curves.specs.declared.PieceCurve.{PieceCurve}
use Rattle.face_paths.specs.PieceRates.{rate_c}
use Rattle.face_paths.specs.declared.piece_paths.PiecePath.{PiecePath}

-- which way u turns, the angle where the development starts, where its origin lies along the axis,
-- and the piece itself
unfoldable pub piece_path_of_c : Frame → Vec3 → Vec3 → Vec3 → Checked PieceCurve → Checked PiecePath
piece_path_of_c f origin axis start piece = do
  d ← vec axis ⊡ vec f.axis
  a ← atan2_c (vec start ⊡ vec f.e2) (vec start ⊡ vec f.e1)
  z ← (vec origin ⊟ vec f.origin) ⊡ vec f.axis
  run ← piece
  given (record { run = run; start = a; side = side d; z = z })

-- where the piece is at t, from 0 at its first end to 1 at its last
unfoldable pub piece_path_at : PiecePath → Float → Checked PathPoint
piece_path_at c t = do
  g ← rate_c c.run t
  theta ← num c.start ⊕ num c.side ⊗ num g.u ⊘ num c.run.ends.neutral
  z ← num c.z ⊕ num c.side ⊗ num g.v
  turn ← num c.side ⊗ num g.du ⊘ num c.run.ends.neutral
  given (record { theta = theta; z = z; turn = turn })
