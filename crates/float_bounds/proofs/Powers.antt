-- Magnitudes at most 2 ^ k, for any k up to 1023: sums and differences add one to the exponent,
-- products add the exponents. Assumes nothing.
use Rattle.std.specs.Prelude.{◌≡◌, true, false, ℕ, suc, ◌+◌, ◌*◌, ◌^◌, ◌≤◌, ◌<◌, pos, negsuc, T, Float}
use Rattle.std.proofs.Common.{sym, ap, ◌∙◌, subst, one-mul, lt→ltb, pow-add, pow_mono}
use Rattle.std.proofs.Math.Nat.{pow-succ'}
use native.Mathlib.Omega.{arith}
use Rattle.std.proofs.Math.Pow.{pow-lt}
use Rattle.std.specs.Float.{fin, binary64}
use Rattle.std.specs.Float.Ieee.{round, sum, neg, add, sub, mul, div, le, fits, of_bits}
use Rattle.std.specs.Float.Ieee.Fits.{and_l, and_r}
use Rattle.checked.specs.Checked.{is_finite, within}
use Rattle.float_bits.specs.FloatBits.{fabs}
use Rattle.rounding.specs.Values.{whole_is}
use Rattle.float_bounds.proofs.Parts.{le_back}
use Rattle.float_bounds.specs.Intervals.{Upto}
use Rattle.float_bounds.proofs.Intervals.{upto_finite, upto_mul, upto_add, upto_sub, upto_wider, upto_div, upto_neg, in_upto}
use Rattle.float_bounds.specs.Powers.{pow}

pow_fits : (k : ℕ) → k ≤ 1023 → T (fits binary64 (pow k))
unfolding fits
pow_fits k h = lt→ltb (1 * 2 ^ k) (2 ^ 1024 * 1) (subst (λ (n : ℕ). n < 2 ^ 1024) (sym (one-mul (2 ^ k))) (pow-lt {i = k} {j = 1024} (omega arith)))

whole_power : (k : ℕ) → k ≤ 1023 → round binary64 false (2 ^ k) 1 ≡ pow k
whole_power k h = ap (λ (n : ℕ). round binary64 false n 1) (sym (one-mul (2 ^ k))) ∙ whole_is binary64 false 1 k (pow_fits k h)

mul_powers : (j k : ℕ) → j + k ≤ 1023 → mul binary64 (pow j) (pow k) ≡ pow (j + k)
unfolding mul
mul_powers j k h = ap (λ (n : ℕ). round binary64 false n 1) ((λ i. one-mul (2 ^ j) i * one-mul (2 ^ k) i) ∙ sym (pow-add 2 j k)) ∙ whole_power (j + k) h

twice_power : (k : ℕ) → suc k ≤ 1023 → add binary64 (pow k) (pow k) ≡ pow (suc k)
unfolding add sum
twice_power k h = ap (λ (n : ℕ). round binary64 false n 1) (twice (2 ^ k) ∙ sym (pow-succ' 2 k)) ∙ whole_power (suc k) h
  where
    twice : (p : ℕ) → 1 * p * 1 + 1 * p * 1 ≡ 2 * p
    twice p = omega arith

pub larger : (j k : ℕ) → j ≤ k → T (le (pow j) (pow k))
larger j k h = le_back (pow j) (pow k) (unfold is_finite in tt) (unfold is_finite in tt) (order (2 ^ j) (2 ^ k) (pow_mono h))
  where
    order : (a b : ℕ) → a ≤ b → 1 * a * 1 + 0 * 1 ≤ 1 * b * 1 + 0 * 1
    order a b h = omega arith

pub pow_wider : (j k : ℕ) (x : Float) → j ≤ k → Upto (pow j) x → Upto (pow k) x
pow_wider j k x h = upto_wider (pow j) (pow k) x (larger j k h)

pub pow_mul : (j k : ℕ) (x y : Float) → j + k ≤ 1023 → Upto (pow j) x → Upto (pow k) y → Upto (pow (j + k)) (mul binary64 x y)
pow_mul j k x y h p q = subst (λ (v : Float). Upto v (mul binary64 x y)) (mul_powers j k h) (upto_mul binary64 (pow j) (pow k) tt tt x y p q)

pub pow_add_of : (k : ℕ) (x y : Float) → suc k ≤ 1023 → Upto (pow k) x → Upto (pow k) y → Upto (pow (suc k)) (add binary64 x y)
pow_add_of k x y h p q = subst (λ (v : Float). Upto v (add binary64 x y)) (twice_power k h) (upto_add binary64 (pow k) (pow k) tt tt x y p q)

pub pow_sub : (k : ℕ) (x y : Float) → suc k ≤ 1023 → Upto (pow k) x → Upto (pow k) y → Upto (pow (suc k)) (sub binary64 x y)
pow_sub k x y h p q = subst (λ (v : Float). Upto v (sub binary64 x y)) (twice_power k h) (upto_sub binary64 (pow k) (pow k) tt tt x y p q)

div_powers : (j k : ℕ) → j + suc k ≤ 1023 → div binary64 (pow j) (fin false 1 (negsuc k)) ≡ pow (j + suc k)
unfolding div
div_powers j k h = ap (λ (n : ℕ). round binary64 false n 1) (ap (λ (n : ℕ). n * 2 ^ suc k) (one-mul (2 ^ j)) ∙ sym (pow-add 2 j (suc k))) ∙ whole_power (j + suc k) h

-- by a divisor of magnitude 2 ^ -(k + 1) at least
pub pow_div : (j k : ℕ) (x y : Float) → j + suc k ≤ 1023 → Upto (pow j) x → T (is_finite y) → T (le (fin false 1 (negsuc k)) (fabs y)) → Upto (pow (j + suc k)) (div binary64 x y)
pow_div j k x y h p Y q = subst (λ (v : Float). Upto v (div binary64 x y)) (div_powers j k h) (upto_div binary64 (pow j) (fin false 1 (negsuc k)) tt tt tt x y Y p q)

pub pow_neg : (k : ℕ) (x : Float) → Upto (pow k) x → Upto (pow k) (neg x)
pow_neg k x h = upto_neg (pow k) x h

pub pow_finite : (k : ℕ) (x : Float) → Upto (pow k) x → T (is_finite x)
pow_finite k x h = upto_finite (pow k) x tt h

-- what passes the test of what is handed in
pub within_pow : (x : Float) → T (within x) → Upto (pow 20) x
unfolding within of_bits neg
within_pow x h = in_upto (pow 20) x (and_l (le (fin true 1 (pos 20)) x) (le x (pow 20)) h, and_r (le (fin true 1 (pos 20)) x) (le x (pow 20)) h)
