-- Numbers by their units, as two naturals of which one is 0: `gain` above zero and `loss` below. The order and the limits of numbers in units, and
-- `Between` by them. Assumes nothing.
use Rattle.std.specs.Prelude.{◌≡◌, refl, Bool, true, false, not, cond, ℕ, zero, suc, ◌+◌, ◌-◌, ◌*◌, ◌/◌, ◌^◌, ◌≤◌, ◌<◌, ℤ, pos, negsuc, neg_ℤ, nat_abs, ◌+ℤ◌, ◌-ℤ◌, ◌≤ℤ◌, T, ltb, Float}
use Rattle.std.proofs.Common.{sym, ap, ◌∙◌, mul-pos, zero-mul, mul-le-mul_right, le_of_mul-le-mul_right, mul-div_cancel, arith, ltb→lt, nltb→le, le→leb, pow_pos}
use Rattle.std.proofs.Math.IntN.{sub_ℕ}
use Rattle.std.specs.Float.{nan, inf, fin, binary64}
use Rattle.std.specs.Float.Ieee.{up, down, neg, le}
use Rattle.std.specs.Float.Ieee.Fits.{down_pos}
use Rattle.std.specs.Float.Ieee.Exact.{HasValue}
use Rattle.checked.specs.Checked.{is_finite}
use Rattle.float_bounds.specs.Parts.{plus, minus, above, under, den}
use Rattle.float_bounds.proofs.Parts.{den_pos, le_parts}
use Rattle.float_bounds.specs.Intervals.{Upto}
use Rattle.float_bounds.proofs.Intervals.{upto_parts}
use Rattle.float_bounds.specs.Powers.{pow}
use Rattle.float_bounds.proofs.Own.{exponent}
use Rattle.float_bounds.specs.Units.{F64, scale, units_in, scaled, Between}
use Rattle.float_bounds.specs.UnitsLaws.{gain, loss, Whole}

pub scale_pos : 0 < scale
unfolding scale
scale_pos = pow_pos 1074

-- every f64 number is a whole number of units: the division leaves nothing
whole_units : (s : Bool) (m : ℕ) (e : ℤ) → F64 (fin s m e) → units_in m e * down e ≡ m * up e * scale
unfolding scale
whole_units s m e F =
    let E = exponent binary64 s m e F in
    ap (λ (x : ℕ). x / down e * down e) E.1 ∙ ap (λ (x : ℕ). x * down e) (mul-div_cancel (m * 2 ^ E.0) (down_pos e)) ∙ sym E.1

pub scaled_exact : (s : Bool) (m : ℕ) (e : ℤ) → F64 (fin s m e) → nat_abs (scaled (fin s m e)) * down e ≡ m * up e * scale
unfolding scaled
scaled_exact true m e F = ap (λ (n : ℕ). n * down e) (size_of (units_in m e)) ∙ whole_units true m e F
  where
    size_of : (n : ℕ) → nat_abs (neg_ℤ (pos n)) ≡ n
    size_of zero = refl
    size_of (suc n) = refl
scaled_exact false m e F = whole_units false m e F

pub whole : (x : Float) → F64 x → Whole x
unfolding gain loss
whole nan F = record { over = sym (zero-mul scale); below = sym (zero-mul scale) }
whole (inf s) F = record { over = sym (zero-mul scale); below = sym (zero-mul scale) }
whole (fin true m e) F = record { over = zero-mul (down e) ∙ sym (zero-mul scale); below = whole_units true m e F }
whole (fin false m e) F = record { over = whole_units false m e F; below = zero-mul (down e) ∙ sym (zero-mul scale) }

-- the units of a number of known value
pub units_are : (x : Float) (s : Bool) (g : ℕ) → HasValue x s g scale → (gain x ≡ plus s g) × (loss x ≡ minus s g)
unfolding gain loss
units_are nan s g v = absurd v
units_are (inf t) s g v = absurd v
units_are (fin t m e) s g v =
    let w : units_in m e ≡ g = ap (λ (x : ℕ). x / down e) v.1 ∙ mul-div_cancel g (down_pos e) in
    ((λ i. plus (v.0 i) (w i)), λ i. minus (v.0 i) (w i))

-- ---- turned about zero
pub neg_units : (x : Float) → (gain (neg x) ≡ loss x) × (loss (neg x) ≡ gain x)
unfolding gain loss neg
neg_units nan = (refl, refl)
neg_units (inf s) = (refl, refl)
neg_units (fin true m e) = (refl, refl)
neg_units (fin false m e) = (refl, refl)

-- ---- the order, and magnitudes
pub le_units : (x y : Float) → F64 x → F64 y → T (is_finite x) → T (is_finite y) → T (le x y) → gain x + loss y ≤ gain y + loss x
le_units x y F G X Y h =
    le_of_mul-le-mul_right {k = den x * den y}
    (order (gain x) (loss x) (above x) (under x) (den x) (gain y) (loss y) (above y) (under y) (den y) scale (whole x F).over (whole x F).below (whole y G).over (whole y G).below (le_parts x y X Y h))
    (mul-pos (den_pos x) (den_pos y))
  where
    order : (g l a b c g' l' a' b' d S : ℕ) → g * c ≡ a * S → l * c ≡ b * S → g' * d ≡ a' * S → l' * d ≡ b' * S → a * d + b' * c ≤ a' * c + b * d → (g + l') * (c * d) ≤ (g' + l) * (c * d)
    order g l a b c g' l' a' b' d S p q p' q' h = omega (arith, mul-le-mul_right S h, ap (λ (z : ℕ). z * d) p, ap (λ (z : ℕ). z * d) q, ap (λ (z : ℕ). z * c) p', ap (λ (z : ℕ). z * c) q')

pub upto_units : (k : ℕ) (x : Float) → F64 x → Upto (pow k) x → gain x + loss x ≤ 2 ^ k * scale
upto_units k x F h =
    le_of_mul-le-mul_right {k = den x} (most (gain x) (loss x) (above x) (under x) (den x) scale (2 ^ k) (whole x F).over (whole x F).below (upto_parts x (pow k) tt h)) (den_pos x)
  where
    most : (g l a b c S p : ℕ) → g * c ≡ a * S → l * c ≡ b * S → (a + b) * 1 ≤ 1 * p * c → (g + l) * c ≤ p * S * c
    most g l a b c S p e q h = omega (arith, mul-le-mul_right S h)

-- ---- `Between`, by units
-- what a whole number is above zero, and below
abbrev over_zero : ℤ → ℕ
over_zero (pos n) = n
over_zero (negsuc n) = 0

abbrev under_zero : ℤ → ℕ
under_zero (pos n) = 0
under_zero (negsuc n) = suc n

integers_le : (x y : ℤ) → over_zero x + under_zero y ≤ over_zero y + under_zero x → x ≤ℤ y
integers_le (pos a) (pos b) h = record { le = le→leb a b (omega arith) }
integers_le (pos a) (negsuc b) h = absurd (omega arith)
integers_le (negsuc a) (pos b) h = record { le = tt }
integers_le (negsuc a) (negsuc b) h = record { le = le→leb b a (omega arith) }

less_parts : (a b : ℕ) → over_zero (sub_ℕ a b) + b ≡ a + under_zero (sub_ℕ a b)
less_parts a b = go (ltb a b) (ltb→lt a b) (nltb→le a b)
  where
    go : (c : Bool) → (T c → a < b) → (T (not c) → b ≤ a) → over_zero (cond c (negsuc (b - suc a)) (pos (a - b))) + b ≡ a + under_zero (cond c (negsuc (b - suc a)) (pos (a - b)))
    go true l g = omega (arith, l tt)
    go false l g = omega (arith, g tt)

more_is : (x : ℤ) (w : ℕ) → over_zero (x +ℤ pos w) + under_zero x ≡ over_zero x + w + under_zero (x +ℤ pos w)
more_is (pos a) w = omega arith
more_is (negsuc a) w = omega (arith, less_parts w (suc a))

less_is : (x : ℤ) (w : ℕ) → over_zero (x -ℤ pos w) + under_zero x + w ≡ over_zero x + under_zero (x -ℤ pos w)
less_is (pos a) zero = omega arith
less_is (pos a) (suc w) = omega (arith, less_parts a (suc w))
less_is (negsuc a) zero = omega (arith, less_parts 0 (suc a))
less_is (negsuc a) (suc w) = omega arith

scaled_parts : (x : Float) → (gain x ≡ over_zero (scaled x)) × (loss x ≡ under_zero (scaled x))
unfolding gain loss scaled
scaled_parts nan = (refl, refl)
scaled_parts (inf s) = (refl, refl)
scaled_parts (fin true m e) = turned (units_in m e)
  where
    turned : (n : ℕ) → (0 ≡ over_zero (neg_ℤ (pos n))) × (n ≡ under_zero (neg_ℤ (pos n)))
    turned zero = (refl, refl)
    turned (suc n) = (refl, refl)
scaled_parts (fin false m e) = (refl, refl)

pub units_between : (w : ℕ) (low x high : Float) → gain low + loss x ≤ gain x + loss low + w → gain x + loss high ≤ gain high + loss x + w → Between w low x high
units_between w low x high h k = record {
  from = integers_le (scaled low -ℤ pos w) (scaled x) (omega (arith, less_is (scaled low) w, (scaled_parts low).0, (scaled_parts low).1, (scaled_parts x).0, (scaled_parts x).1));
  to = integers_le (scaled x) (scaled high +ℤ pos w) (omega (arith, more_is (scaled high) w, (scaled_parts x).0, (scaled_parts x).1, (scaled_parts high).0, (scaled_parts high).1));
}
