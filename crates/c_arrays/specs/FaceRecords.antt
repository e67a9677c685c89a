-- Cones, frames and sums as arrays of numbers.
use Rattle.std.specs.Prelude.{Bool, List, [], ◌∷◌, get_or, Float}
use Rattle.std.specs.Float.{nan}
use Rattle.cones.specs.declared.Cone.{Cone}
use Rattle.cones.specs.declared.Frame.{Frame}
use Rattle.integrals.specs.declared.Integrals.{Integrals}
use Rattle.c_arrays.specs.Records.{vec3_at}

-- ---- records from arrays
-- origin, axis, radius, slope; which side the body is on stands beside them
abbrev pub cone : List Float → Bool → Cone
cone l convex = record { origin = vec3_at l 0; axis = vec3_at l 3; radius = get_or l 6 nan; slope = get_or l 7 nan; convex = convex }

-- axis, origin, e1, e2
abbrev pub frame : List Float → Frame
frame l = record { axis = vec3_at l 0; origin = vec3_at l 3; e1 = vec3_at l 6; e2 = vec3_at l 9 }

-- six volumes, moment, area, area vector
abbrev pub sums : List Float → Integrals
sums l = record { surface = record { six_v = get_or l 0 nan; moment = vec3_at l 1; area = get_or l 4 nan; area_vector = vec3_at l 5 } }

-- ---- records as numbers, in the same order
abbrev pub of_cone : Cone → List Float
of_cone c = c.origin.x ∷ c.origin.y ∷ c.origin.z ∷ c.axis.x ∷ c.axis.y ∷ c.axis.z ∷ c.radius ∷ c.slope ∷ []

abbrev pub of_frame : Frame → List Float
of_frame f =
    f.axis.x ∷ f.axis.y ∷ f.axis.z ∷ f.origin.x ∷ f.origin.y ∷ f.origin.z ∷ f.e1.x ∷ f.e1.y ∷ f.e1.z
    ∷ f.e2.x ∷ f.e2.y ∷ f.e2.z ∷ []

abbrev pub of_sums : Integrals → List Float
of_sums s =
    s.surface.six_v ∷ s.surface.moment.x ∷ s.surface.moment.y ∷ s.surface.moment.z ∷ s.surface.area
    ∷ s.surface.area_vector.x ∷ s.surface.area_vector.y ∷ s.surface.area_vector.z ∷ []
