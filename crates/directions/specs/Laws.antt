-- Which notes of a root, a length, a unit vector are needless.
use Rattle.std.specs.Prelude.{◌≡◌, Bool, ◌||◌}
use Rattle.std.specs.Float.{binary64}
use Rattle.checked.specs.Checked.{first, nine, is_finite}
use Rattle.checked.specs.Laws.{tells, one, two, alone, rules as checked_rules}
use Rattle.rounding.specs.Computations.{sqrt_c}
use Rattle.rounding.specs.Laws.{sqrt_under, rounded}
use Rattle.vectors.specs.declared.Vec3.{Vec3}
use Rattle.vectors.specs.Vectors.{is_finite3, nines, minus_c, times_c, dot_c}
use Rattle.vectors.specs.Laws.{alone3, dot_left, times_left, minus_left, minus_right, rules as vectors_rules}
use Rattle.directions.specs.Directions.{length_c, over_length_c, unit_c, across_c, radial_c}

pub length_nine : (v : Vec3) → (length_c v).refusal ≡ nine (length_c v).value
unfolding length_c
length_nine v = simp (sqrt_c, rounded, checked_rules, vectors_rules)

pub length_tells : (v : Vec3) (p : Bool) → tells (is_finite (length_c v).value) p ≡ (tells (is_finite3 v) p || tells (is_finite (alone (length_c v).value)) p)
unfolding length_c alone
length_tells v p = one (is_finite (length_c v).value) (is_finite3 v) p (λ h. dot_left v v (sqrt_under binary64 (dot_c v v).value h))

pub across_nine : (axis d : Vec3) → (across_c axis d).refusal ≡ nines (across_c axis d).value
unfolding across_c
across_nine axis d = simp (checked_rules, vectors_rules)

pub across_tells : (axis d : Vec3) (p : Bool) → tells (is_finite3 (across_c axis d).value) p ≡ (tells (is_finite3 axis) p || (tells (is_finite3 d) p || tells (is_finite3 (alone3 (across_c axis d).value)) p))
unfolding across_c alone3
across_tells axis d p =
    two (is_finite3 (across_c axis d).value) (is_finite3 axis) (is_finite3 d) p
    (λ h. times_left axis (dot_c d axis).value (minus_right d (times_c axis (dot_c d axis).value).value h))
    (minus_left d (times_c axis (dot_c d axis).value).value)

-- the length is noted by itself, since it is a divisor: over an infinite one the vector would be 0
pub over_length_refusal : (v : Vec3) → (over_length_c v).refusal ≡ first (nine (length_c v).value) (nines (over_length_c v).value)
unfolding over_length_c
over_length_refusal v = simp (length_nine, checked_rules, vectors_rules)

pub unit_refusal : (v : Vec3) → (unit_c v).refusal ≡ first (nine (length_c v).value) (nines (unit_c v).value)
unfolding unit_c
unit_refusal = over_length_refusal

pub ruleset opened = (sqrt_c, length_nine, across_nine)

pub ruleset absorbed = (rounded, length_tells, across_tells)

pub ruleset rules = (opened, absorbed)

-- a finite length tells that all before it is finite
pub radial_refusal : (origin axis p : Vec3) → (radial_c origin axis p).refusal ≡ (unit_c (across_c axis (minus_c p origin).value).value).refusal
unfolding radial_c
radial_refusal origin axis p = simp (unit_refusal, rules, checked_rules, vectors_rules)
