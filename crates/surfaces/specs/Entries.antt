-- What the entries on surfaces are due to answer.
use Rattle.std.specs.Prelude.{ℕ, ◌&&◌, Option}
use Rattle.checked.specs.Refusals.{OUT_OF_RANGE}
use Rattle.checked.specs.Checked.{within, Due, due, answered}
use Rattle.checked.specs.Tests.{fails, ◌or◌, passing}
use Rattle.vectors.specs.declared.Vec3.{Vec3}
use Rattle.vectors.specs.Vectors.{within3}
use Rattle.motions.specs.declared.Rigid.{Rigid}
use Rattle.motions.specs.Motions.{within_rigid}
use Rattle.cones.specs.declared.Cone.{Cone}
use Rattle.cones.specs.Entries.{cone_within}
use Rattle.pieces.specs.Entries as pieces
use Rattle.surfaces.specs.declared.Plane.{Plane}
use Rattle.surfaces.specs.declared.Surface.{Surface}
use Rattle.surfaces.specs.declared.Surface.TheVariants as surface
use Rattle.surfaces.specs.Surfaces.{plane_of, cone_of, moved_c, normal_c}

-- ---- what is tried
-- the number of the test that a surface fails first
unfoldable pub tests : Surface → ℕ
tests (surface.Plane p) = fails OUT_OF_RANGE (within3 p.origin && within3 p.normal)
tests (surface.Cylinder c) = fails OUT_OF_RANGE (within3 c.origin && (within3 c.axis && within c.radius))
tests (surface.Cone c) = fails OUT_OF_RANGE (cone_within c)
tests (surface.Wall w) = pieces.tests w

-- ---- what is due
-- `Surface::plane`
unfoldable pub plane_due : Surface → Due (Option Plane)
plane_due s = passing (tests s) (due (plane_of s))

-- `Surface::revolution`
unfoldable pub revolution_due : Surface → Due (Option Cone)
revolution_due s = passing (tests s) (due (cone_of s))

-- `Surface::moved`
unfoldable pub moved_due : Surface → Rigid → Due Surface
moved_due s m = passing (fails OUT_OF_RANGE (within_rigid m) or tests s) (answered (moved_c s m))

-- `Surface::normal_at`
unfoldable pub normal_due : Surface → Vec3 → Due Vec3
normal_due s p = passing (fails OUT_OF_RANGE (within3 p) or tests s) (answered (normal_c s p))
