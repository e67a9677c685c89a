-- The surface that a face lies on: a plane, a cylinder, a cone, or the wall over a piece.
use Rattle.std.specs.Prelude.{Option, Some, None}
use Rattle.checked.specs.Checked.{Checked, ◌>>=◌, given}
use Rattle.checked.specs.Numbers.{zero}
use Rattle.vectors.specs.declared.Vec3.{Vec3}
use Rattle.directions.specs.Directions.{unit_c}
use Rattle.motions.specs.declared.Rigid.{Rigid}
use Rattle.motions.specs.Axes as axes
use Rattle.surfaces.specs.Normals.{cylinder_c, cone_c}
use Rattle.developments.specs.Formulas.{unroll_c}
use Rattle.cones.specs.declared.Cone.{Cone}
use Rattle.pieces.specs.declared.Rolled.{Rolled}
use Rattle.pieces.specs.Pieces as pieces
use Rattle.curves.specs.Parts.{moved_piece_c}
use Rattle.surfaces.specs.declared.Plane.{Plane}
use Rattle.surfaces.specs.declared.Surface.{Surface}
use Rattle.surfaces.specs.declared.Surface.TheVariants as surface

-- the plane, none for the others
unfoldable pub plane_of : Surface → Option Plane
plane_of (surface.Plane p) = Some p
plane_of (surface.Cylinder c) = None
plane_of (surface.Cone c) = None
plane_of (surface.Wall w) = None

-- a surface of revolution as a cone, a cylinder as one of slope 0; none for the others
unfoldable pub cone_of : Surface → Option Cone
cone_of (surface.Plane p) = None
cone_of (surface.Cylinder c) = Some (record { origin = c.origin; axis = c.axis; radius = c.radius; slope = zero; convex = c.convex })
cone_of (surface.Cone c) = Some c
cone_of (surface.Wall w) = None

-- moved by m: its point turned and shifted, its normal or axis turned
unfoldable pub moved_c : Surface → Rigid → Checked Surface
moved_c (surface.Plane p) m = do
  x ← axes.moved_c m p.origin p.normal
  given (surface.Plane (record { origin = x.origin; normal = x.along }))
moved_c (surface.Cylinder c) m = do
  x ← axes.moved_c m c.origin c.axis
  given (surface.Cylinder (record { origin = x.origin; axis = x.along; radius = c.radius; convex = c.convex }))
moved_c (surface.Cone c) m = do
  x ← axes.moved_c m c.origin c.axis
  given (surface.Cone (record { origin = x.origin; axis = x.along; radius = c.radius; slope = c.slope; convex = c.convex }))
moved_c (surface.Wall w) m = do
  p ← moved_piece_c w m
  given (surface.Wall p)

-- a wall's normal at p: that of its piece where p unrolls to, near the piece's start
unfoldable pub wall_c : Rolled → Vec3 → Checked Vec3
wall_c w p = do
  q ← unroll_c w.dev.origin w.dev.axis w.dev.start w.dev.neutral p w.from.x
  pieces.normal_c w q.p q.r

-- the unit normal out of the body at p
unfoldable pub normal_c : Surface → Vec3 → Checked Vec3
normal_c (surface.Plane s) p = unit_c s.normal
normal_c (surface.Cylinder s) p = cylinder_c s.origin s.axis s.convex p
normal_c (surface.Cone s) p = cone_c s.origin s.axis s.slope s.convex p
normal_c (surface.Wall w) p = wall_c w p
