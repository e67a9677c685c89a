-- The running sums of a face after a path.
use Rattle.std.specs.Prelude.{Float}
use Rattle.checked.specs.Checked.{Checked, ◌>>=◌, given}
use Rattle.vectors.specs.declared.Vec3.{Vec3}
use Rattle.pieces.specs.declared.Rolled.{Rolled}
use Rattle.pieces.specs.Pieces.{run_c}
use Rattle.piece_lengths.specs.Counts.{quadrature_c}
use Rattle.arcs.specs.declared.Arc.{Arc}
use Rattle.cones.specs.declared.Cone.{Cone}
use Rattle.integrals.specs.declared.Integrals.{Integrals}
use Rattle.integrals.specs.declared.integrands.Revolved.{Revolved}
use Rattle.integrals.specs.declared.integrands.PathPoint.{PathPoint}
use Rattle.integrals.specs.Along.{path_along_c}
use Rattle.integrals.specs.Integrands.{revolved_c}
use Rattle.face_paths.specs.ArcPaths.{arc_path_at, arc_path_c}
use Rattle.face_paths.specs.PiecePaths.{piece_path_of_c, piece_path_at}
use Rattle.face_paths.specs.declared.FacePath.{FacePath}
use Rattle.face_paths.specs.declared.FacePath.TheVariants as track

-- where a path is at t
unfoldable pub face_path_at : FacePath → Float → Checked PathPoint
face_path_at (track.Arc c) = arc_path_at c
face_path_at (track.Piece d) = piece_path_at d

-- the running sums after a piece of a development
unfoldable pub piece_path_c : Revolved → Rolled → Integrals → Checked Integrals
piece_path_c v p s = do
  c ← piece_path_of_c v.frame p.dev.origin p.dev.axis p.dev.start (run_c p)
  n ← quadrature_c c.run
  t ← path_along_c v (piece_path_at c) n s.surface
  given (record { surface = t })

-- ---- where a path's call works out the surface for itself
-- an arc from u to v
unfoldable pub with_arc_c : Cone → Vec3 → Arc → Vec3 → Vec3 → Integrals → Checked Integrals
with_arc_c cone o arc u v s = do
  w ← revolved_c cone o
  arc_path_c w arc u v s

-- a piece
unfoldable pub with_piece_c : Cone → Vec3 → Rolled → Integrals → Checked Integrals
with_piece_c cone o p s = do
  w ← revolved_c cone o
  piece_path_c w p s
