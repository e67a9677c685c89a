-- Arcs, motions and boxes as arrays of numbers.
use Rattle.std.specs.Prelude.{ℕ, ◌*◌, Bool, cond, List, [], ◌∷◌, eqb, get_or, set, length, Float}
use Rattle.std.specs.Float.{nan}
use Rattle.motions.specs.declared.Rigid.{Rigid}
use Rattle.profile_arcs.specs.declared.ProfileArc.{ProfileArc}
use Rattle.arcs.specs.declared.Arc.{Arc}
use Rattle.boxes.specs.declared.Bounds.{Bounds}
use Rattle.checked.specs.Checked.{Due}
use Rattle.checked.specs.Answers.{number_of}
use Rattle.vectors.specs.declared.Vec3.{Vec3}
use Rattle.rows.specs.Rows as Rows
use Rattle.c_arrays.specs.Records.{vec2, vec3_at}

-- ---- records from arrays
-- centre, axis, radius
abbrev pub arc : List Float → Arc
arc l = record { center = vec3_at l 0; axis = vec3_at l 3; radius = get_or l 6 nan }

-- its centre, and the way beside it
abbrev pub profile_arc : List Float → Bool → ProfileArc
profile_arc l ccw = record { center = vec2 l; ccw = ccw }

-- the rotation row by row, then the shift
abbrev pub rigid : List Float → Rigid
rigid l = record {
  rot = record { x = vec3_at l 0; y = vec3_at l 3; z = vec3_at l 6 };
  shift = vec3_at l 9;
}

-- low corner, high corner
abbrev pub bounds : List Float → Bounds
bounds l = record { low = vec3_at l 0; high = vec3_at l 3 }

-- ---- records as numbers, in the same order
abbrev pub of_arc : Arc → List Float
of_arc a = a.center.x ∷ a.center.y ∷ a.center.z ∷ a.axis.x ∷ a.axis.y ∷ a.axis.z ∷ a.radius ∷ []

abbrev pub of_rigid : Rigid → List Float
of_rigid m =
    m.rot.x.x ∷ m.rot.x.y ∷ m.rot.x.z ∷ m.rot.y.x ∷ m.rot.y.y ∷ m.rot.y.z ∷ m.rot.z.x ∷ m.rot.z.y ∷ m.rot.z.z
    ∷ m.shift.x ∷ m.shift.y ∷ m.shift.z ∷ []

abbrev pub of_bounds : Bounds → List Float
of_bounds b = b.low.x ∷ b.low.y ∷ b.low.z ∷ b.high.x ∷ b.high.y ∷ b.high.z ∷ []

-- how many numbers so many points are
abbrev pub of_drawn : ℕ → List ℕ
of_drawn points = 3 * points ∷ []

-- how many numbers were written to a row; as before where that is refused
unfoldable pub after_count : List ℕ → Due (List Vec3) → List ℕ
after_count l d = cond (eqb (number_of d) 0) (set l 0 (length (Rows.part_of d))) l
