-- What the entries on curves are due to answer.
use Rattle.std.specs.Prelude.{ℕ, ◌&&◌, Option}
use Rattle.checked.specs.Refusals.{OUT_OF_RANGE}
use Rattle.checked.specs.Checked.{within, Due, due, answered}
use Rattle.checked.specs.Tests.{fails, ◌or◌, passing}
use Rattle.vectors.specs.declared.Vec3.{Vec3}
use Rattle.vectors.specs.Vectors.{within3}
use Rattle.motions.specs.declared.Rigid.{Rigid}
use Rattle.motions.specs.Motions.{within_rigid}
use Rattle.boxes.specs.declared.Bounds.{Bounds}
use Rattle.boxes.specs.Boxes.{box_call}
use Rattle.arcs.specs.Sweep.{circle_within}
use Rattle.arcs.specs.declared.Arc.{Arc}
use Rattle.pieces.specs.Entries as pieces
use Rattle.curves.specs.declared.Curve.{Curve}
use Rattle.curves.specs.declared.Curve.TheVariants as curve
use Rattle.curves.specs.Curves.{reversed_c, moved_c, arc_of, points_c}

-- ---- what is tried
-- the number of the test that a curve fails first
unfoldable pub tests : Curve → ℕ
tests (curve.Arc a) = fails OUT_OF_RANGE (circle_within a.center a.axis a.radius)
tests (curve.Rolled w) = fails OUT_OF_RANGE (within w.radius) or pieces.tests w.piece

-- ---- what is due
-- `Curve::reversed`
unfoldable pub reversed_due : Curve → Due Curve
reversed_due c = passing (tests c) (answered (reversed_c c))

-- `Curve::moved`
unfoldable pub moved_due : Curve → Rigid → Due Curve
moved_due c m = passing (fails OUT_OF_RANGE (within_rigid m) or tests c) (answered (moved_c c m))

-- `Curve::arc`
unfoldable pub arc_due : Curve → Due (Option Arc)
arc_due c = passing (tests c) (due (arc_of c))

-- ---- `Curve::extend_bounds`
-- the tests of what is handed in with the curve: of both ends too, though a piece does not read them
unfoldable pub handed : Curve → Vec3 → Vec3 → ℕ
handed c from to = fails OUT_OF_RANGE (within3 from && within3 to) or tests c

unfoldable pub extend_due : Curve → Vec3 → Vec3 → Bounds → Due Bounds
extend_due c from to b = box_call (handed c from to) (points_c c from to) b
