-- An arc as a path on a surface of revolution.
use Rattle.std.specs.Prelude.{Float}
use Rattle.checked.specs.Checked.{Checked, ◌>>=◌, given, num, ◌⊕◌, ◌⊗◌, ◌⊘◌}
use Rattle.checked.specs.Numbers.{one, quarter_pi}
use Rattle.float_bits.specs.FloatBits.{fabs}
use Rattle.vectors.specs.declared.Vec3.{Vec3}
use Rattle.vectors.specs.Vectors.{vec, ◌⊟◌, ◌⊡◌}
use Rattle.chord_counts.specs.Counts.{MOST, count_c}
use Rattle.arcs.specs.declared.Arc.{Arc}
use Rattle.arcs.specs.Sweep.{sweep_c}
use Rattle.cones.specs.declared.Frame.{Frame}
use Rattle.cones.specs.Frames.{angle_c}
use Rattle.integrals.specs.declared.Integrals.{Integrals}
use Rattle.integrals.specs.Sums.{side}
use Rattle.integrals.specs.declared.integrands.Revolved.{Revolved}
use Rattle.integrals.specs.declared.integrands.PathPoint.{PathPoint}
use Rattle.integrals.specs.Along.{path_along_c}
use Rattle.face_paths.specs.declared.arc_paths.ArcPath.{ArcPath}

-- the angle that the arc turns about the surface's axis, the angle where it starts, its place along
-- the axis, and into how many panels of at most 45° it is cut
unfoldable pub arc_path_of_c : Frame → Arc → Vec3 → Vec3 → Checked ArcPath
arc_path_of_c f arc u v = do
  s ← sweep_c arc.center arc.axis u v
  d ← vec arc.axis ⊡ vec f.axis
  turn ← num s ⊗ num (side d)
  start ← angle_c f u
  z ← (vec arc.center ⊟ vec f.origin) ⊡ vec f.axis
  q ← num (fabs turn) ⊘ num quarter_pi
  n ← count_c q one MOST
  given (record { start = start; turn = turn; z = z; stretches = n })

-- where the arc is at t, from 0 at its first end to 1 at its last
unfoldable pub arc_path_at : ArcPath → Float → Checked PathPoint
arc_path_at c t = do
  theta ← num c.start ⊕ num c.turn ⊗ num t
  given (record { theta = theta; z = c.z; turn = c.turn })

-- the running sums after an arc from u to v
unfoldable pub arc_path_c : Revolved → Arc → Vec3 → Vec3 → Integrals → Checked Integrals
arc_path_c w arc u v s = do
  c ← arc_path_of_c w.frame arc u v
  t ← path_along_c w (arc_path_at c) c.stretches s.surface
  given (record { surface = t })
