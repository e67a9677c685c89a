-- Surfaces as arrays of numbers: a plane's six, a cylinder's seven, a cone's eight, or the 26 of a wall's piece. Tags say which of them are
-- read.
use Rattle.std.specs.Prelude.{ℕ, Bool, cond, ◌&&◌, ◌||◌, List, [], ◌∷◌, eqb, leb, get_or, Float}
use Rattle.std.specs.Float.{nan}
use Rattle.surfaces.specs.declared.Plane.{Plane}
use Rattle.surfaces.specs.declared.Cylinder.{Cylinder}
use Rattle.surfaces.specs.declared.Surface.{Surface}
use Rattle.surfaces.specs.declared.Surface.TheVariants as surface_is
use Rattle.c_arrays.specs.Records.{vec3_at, over}
use Rattle.c_arrays.specs.FaceRecords.{cone, of_cone}
use Rattle.piece_arrays.specs.Arrays.{is_piece, piece, with_piece}

-- ---- a surface from its array
-- the tags of a surface: its kind is 0 for a plane, 1 for a cylinder, 2 for a cone, whose other tags are not read, and 3 for a wall
unfoldable pub is_surface : ℕ → ℕ → ℕ → Bool
is_surface kind arc trace = leb kind 2 || (eqb kind 3 && is_piece arc trace)

-- origin, normal
abbrev pub plane : List Float → Plane
plane l = record { origin = vec3_at l 0; normal = vec3_at l 3 }

-- origin, axis, radius; which side the body is on stands beside them
abbrev pub cylinder : List Float → Bool → Cylinder
cylinder l convex = record { origin = vec3_at l 0; axis = vec3_at l 3; radius = get_or l 6 nan; convex = convex }

abbrev pub surface : List Float → ℕ → Bool → ℕ → ℕ → Surface
surface l kind convex arc trace =
    cond (eqb kind 0) (surface_is.Plane (plane l))
    (cond (eqb kind 1) (surface_is.Cylinder (cylinder l convex))
    (cond (eqb kind 2) (surface_is.Cone (cone l convex))
    (surface_is.Wall (piece l arc trace))))

-- ---- surfaces as numbers, in the same order
abbrev pub of_plane : Plane → List Float
of_plane p = p.origin.x ∷ p.origin.y ∷ p.origin.z ∷ p.normal.x ∷ p.normal.y ∷ p.normal.z ∷ []

abbrev pub of_cylinder : Cylinder → List Float
of_cylinder c = c.origin.x ∷ c.origin.y ∷ c.origin.z ∷ c.axis.x ∷ c.axis.y ∷ c.axis.z ∷ c.radius ∷ []

-- the surface's numbers over what an array held
unfoldable pub with_surface : List Float → Surface → List Float
with_surface l (surface_is.Plane p) = over l 0 (of_plane p)
with_surface l (surface_is.Cylinder c) = over l 0 (of_cylinder c)
with_surface l (surface_is.Cone c) = over l 0 (of_cone c)
with_surface l (surface_is.Wall w) = with_piece l w
