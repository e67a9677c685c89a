-- Which notes of a sweep suffice, and what is finite where it meets no refusal. Assumes nothing.
use Rattle.std.specs.Prelude.{◌≡◌, Bool, ◌&&◌, T, Float}
use Rattle.std.specs.Float.Ieee.Fits.{and_l, and_r}
use Rattle.checked.specs.Checked.{first, nine, is_finite}
use Rattle.checked.specs.Laws.{ok, nine_ok, ok_and, rules as checked_rules}
use Rattle.vectors.specs.declared.Vec3.{Vec3}
use Rattle.vectors.specs.Vectors.{is_finite3, minus_c, cross_c, dot_c}
use Rattle.vectors.specs.Laws.{minus_left, dot_left, dot_right, rules as vectors_rules}
use Rattle.profile_arcs.specs.Angles.{angle_c}
use Rattle.profile_arcs.specs.AnglesLaws.{ahead_nine, ahead_noted}
use Rattle.arcs.specs.Sweep.{sweep_from_c, sweep_c}

ruleset all = (checked_rules, vectors_rules)

-- the two numbers that the arctangent takes
abbrev pub rise : Vec3 → Vec3 → Vec3 → Vec3 → Float
rise center axis u p = (dot_c axis (cross_c u (minus_c p center).value).value).value

abbrev pub run : Vec3 → Vec3 → Vec3 → Float
run center u p = (dot_c u (minus_c p center).value).value

pub sweep_from_refusal : (center axis u p : Vec3) → (sweep_from_c center axis u p).refusal ≡ first (angle_c (rise center axis u p) (run center u p)).refusal (nine (sweep_from_c center axis u p).value)
unfolding sweep_from_c
sweep_from_refusal center axis u p = simp (ahead_nine, ahead_noted, all)

-- the same, with the angle's note left out, since the turn's tells of it
pub sweep_from_noted : (center axis u p : Vec3) → (sweep_from_c center axis u p).refusal ≡ first (nine (rise center axis u p)) (first (nine (run center u p)) (nine (sweep_from_c center axis u p).value))
unfolding sweep_from_c
sweep_from_noted center axis u p = simp (ahead_nine, all)

pub sweep_refusal : (center axis from to : Vec3) → (sweep_c center axis from to).refusal ≡ (sweep_from_c center axis (minus_c from center).value to).refusal
unfolding sweep_c
sweep_refusal center axis from to = simp (sweep_from_noted, all)

-- a sweep from the first end, by where that lies from the centre
pub sweep_is : (center axis from : Vec3) → sweep_c center axis from ≡ sweep_from_c center axis (minus_c from center).value
unfolding sweep_c
sweep_is center axis from = λ i p. record { refusal = sweep_refusal center axis from p i; value = (sweep_from_c center axis (minus_c from center).value p).value }

pub sweep_to : (center axis from to : Vec3) → sweep_c center axis from to ≡ sweep_from_c center axis (minus_c from center).value to
sweep_to center axis from to = λ i. sweep_is center axis from i to

-- ---- where a sweep meets no refusal, the point that it turns to is finite
abbrev pub swept : Vec3 → Vec3 → Vec3 → Vec3 → Bool
swept center axis u p = is_finite (rise center axis u p) && (is_finite (run center u p) && is_finite (sweep_from_c center axis u p).value)

pub sweep_from_ok : (center axis u p : Vec3) → (sweep_from_c center axis u p).refusal ≡ ok (swept center axis u p)
sweep_from_ok center axis u p = simp (sweep_from_noted, nine_ok, ok_and)

pub swept_finite : (center axis u p : Vec3) → T (swept center axis u p) → T (is_finite3 u) × T (is_finite3 p)
swept_finite center axis u p h =
    let v = (minus_c p center).value in
    let rest = is_finite (run center u p) && is_finite (sweep_from_c center axis u p).value in
    let x : T (is_finite (run center u p)) = and_l (is_finite (run center u p)) (is_finite (sweep_from_c center axis u p).value) (and_r (is_finite (rise center axis u p)) rest h) in
    (dot_left u v x, minus_left p center (dot_right u v x))
