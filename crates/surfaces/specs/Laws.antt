-- Which notes of a normal suffice: turning round keeps what is finite. Assumes nothing.
use Rattle.std.specs.Prelude.{◌≡◌, refl, Bool, true, false, Float}
use Rattle.std.proofs.Common.{◌∙◌, ap}
use Rattle.std.specs.Float.{nan, inf, fin}
use Rattle.std.specs.Float.Ieee.{neg}
use Rattle.checked.specs.Checked.{first, is_finite, nine}
use Rattle.checked.specs.Laws.{first_assoc, first_zero, first_same, rules as checked_rules}
use Rattle.vectors.specs.declared.Vec3.{Vec3}
use Rattle.vectors.specs.Vectors.{is_finite3, nines, neg_c, minus_c, times_c}
use Rattle.vectors.specs.Laws.{neg_nine, rules as vectors_rules}
use Rattle.directions.specs.Directions.{length_c, unit_c, across_c, radial_c}
use Rattle.directions.specs.Laws.{unit_refusal, radial_refusal, rules as directions_rules}
use Rattle.surfaces.specs.Normals.{faced_c, cylinder_c, cone_c}

neg_finite : (x : Float) → is_finite (neg x) ≡ is_finite x
unfolding is_finite neg
neg_finite nan = refl
neg_finite (inf s) = refl
neg_finite (fin s m e) = refl

neg_nines : (v : Vec3) → nines (neg_c v).value ≡ nines v
unfolding nines is_finite3 neg_c
neg_nines v = simp (neg_finite)

-- a vector that is noted need not be noted again where it is turned round
faced_noted : (convex : Bool) (v : Vec3) → first (nines v) (faced_c convex v).refusal ≡ nines v
unfolding faced_c
faced_noted true v = first_zero (nines v)
faced_noted false v = simp (neg_nine, neg_nines) (first_same (nines v))

unit_faced : (convex : Bool) (v : Vec3) → first (unit_c v).refusal (faced_c convex (unit_c v).value).refusal ≡ (unit_c v).refusal
unit_faced convex v = rw (unit_refusal v) (first_assoc (nine (length_c v).value) (nines (unit_c v).value) _ ∙ ap (first (nine (length_c v).value)) (faced_noted convex (unit_c v).value))

pub cylinder_refusal : (origin axis : Vec3) (convex : Bool) (p : Vec3) → (cylinder_c origin axis convex p).refusal ≡ (radial_c origin axis p).refusal
unfolding cylinder_c radial_c
cylinder_refusal origin axis convex p = rw (radial_refusal origin axis p) (unit_faced convex (across_c axis (minus_c p origin).value).value)

-- away from the axis, tilted back
abbrev tilted : Vec3 → Vec3 → Float → Vec3 → Vec3
tilted origin axis slope p = (minus_c (radial_c origin axis p).value (times_c axis slope).value).value

pub cone_refusal : (origin axis : Vec3) (slope : Float) (convex : Bool) (p : Vec3) → (cone_c origin axis slope convex p).refusal ≡ first (radial_c origin axis p).refusal (unit_c (tilted origin axis slope p)).refusal
unfolding cone_c
cone_refusal origin axis slope convex p = rw (unit_faced convex (tilted origin axis slope p)) (simp (unit_refusal, directions_rules, checked_rules, vectors_rules))
