-- Which notes of a circle's extreme points suffice.
use Rattle.std.specs.Prelude.{◌≡◌, refl, Bool, true, false, cond, List, [], ◌∷◌, ◌++◌, T, Float}
use Rattle.std.specs.Float.Ieee.{lt, neg}
use Rattle.checked.specs.Checked.{Checked, first, given, nine}
use Rattle.checked.specs.Laws.{first_zero, zero_first, ok, rules as checked_rules}
use Rattle.checked.specs.Numbers.{zero, one}
use Rattle.vectors.specs.declared.Vec3.{Vec3}
use Rattle.vectors.specs.Vectors.{along_x, along_y, along_z, is_finite3, nines, minus_c}
use Rattle.vectors.specs.Laws.{nines_ok, rules as vectors_rules}
use Rattle.directions.specs.Directions.{length_c, across_c}
use Rattle.directions.specs.Laws.{rules as directions_rules}
use Rattle.arcs.specs.Sweep.{sweep_from_c}
use Rattle.arcs.specs.SweepLaws.{swept, sweep_from_ok, swept_finite, sweep_is, sweep_to}
use Rattle.arcs.specs.Extremes.{side_c, taken_c, both_c, extremes_c, points_c}

ruleset all = (checked_rules, vectors_rules, directions_rules)

pub side_nine : (center : Vec3) (radius : Float) (w : Vec3) (len s : Float) → (side_c center radius w len s).refusal ≡ nines (side_c center radius w len s).value
unfolding side_c
side_nine center radius w len s = simp all

pub taken_refusal : (sweep : Vec3 → Checked Float) (turn : Float) (p : Vec3) → (taken_c sweep turn p).refusal ≡ (sweep p).refusal
unfolding taken_c
taken_refusal sweep turn p = simp first_zero

-- two points, and what is tried after them and is finite only where they are
two_later : (p q x y : Bool) → (T x → T p) → (T y → T q) → first (ok p) (first (ok q) (first (ok x) (ok y))) ≡ first (ok x) (ok y)
unfolding ok first
two_later true true x y f g = refl
two_later true false true true f g = absurd (g tt)
two_later true false true false f g = refl
two_later true false false y f g = refl
two_later false q true y f g = absurd (f tt)
two_later false q false y f g = refl

-- a candidate need not be noted, since its sweep is
pub both_refusal : (center axis : Vec3) (radius : Float) (u : Vec3) (turn : Float) (w : Vec3) (len : Float) → (both_c center radius (sweep_from_c center axis u) turn w len).refusal ≡ first (sweep_from_c center axis u (side_c center radius w len one).value).refusal (sweep_from_c center axis u (side_c center radius w len (neg one)).value).refusal
unfolding both_c
both_refusal center axis radius u turn w len =
    let p = (side_c center radius w len one).value in
    let q = (side_c center radius w len (neg one)).value in
    simp (side_nine, taken_refusal, first_zero, nines_ok, sweep_from_ok)
    (two_later (is_finite3 p) (is_finite3 q) (swept center axis u p) (swept center axis u q) (λ h. (swept_finite center axis u p h).1) (λ h. (swept_finite center axis u q h).1))

pub extremes_refusal : (center axis : Vec3) (radius : Float) (sweep : Vec3 → Checked Float) (turn : Float) (e : Vec3) → (extremes_c center axis radius sweep turn e).refusal ≡ first (nine (length_c (across_c axis (across_c axis e).value).value).value) (cond (lt zero (length_c (across_c axis (across_c axis e).value).value).value) (both_c center radius sweep turn (across_c axis (across_c axis e).value).value (length_c (across_c axis (across_c axis e).value).value).value) (given [])).refusal
unfolding extremes_c
extremes_refusal center axis radius sweep turn e = simp all

module _ (center axis : Vec3) (radius : Float) (from to : Vec3) where
  abbrev pub start : Vec3 → Checked Float
  start = sweep_from_c center axis (minus_c from center).value

  abbrev pub extremes : Vec3 → Checked (List Vec3)
  extremes e = extremes_c center axis radius start (start to).value e

  pub points_refusal : (points_c center axis radius from to).refusal ≡ first (start to).refusal (first (extremes along_x).refusal (first (extremes along_y).refusal (extremes along_z).refusal))
  unfolding points_c
  points_refusal = simp (sweep_to, sweep_is, zero_first, first_zero)

  pub points_value : (points_c center axis radius from to).value ≡ from ∷ to ∷ ((extremes along_x).value ++ ((extremes along_y).value ++ (extremes along_z).value))
  unfolding points_c
  points_value = simp (sweep_to, sweep_is)
