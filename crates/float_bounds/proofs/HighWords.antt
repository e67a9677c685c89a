-- What the high word of a pattern says of a number's magnitude: patterns without a sign are ordered
-- as their numbers are. Assumes nothing.
use Rattle.std.specs.Prelude.{◌≡◌, refl, ◌≢◌, ◌⊎◌, Bool, true, false, ℕ, zero, suc, ◌+◌, ◌*◌, ◌/◌, ◌%◌, ◌^◌, ◌≤◌, ◌<◌, T, ltb, Float}
use Rattle.std.proofs.Common.{sym, ap, ◌∙◌, subst, inl, inr, le_trans, le_of_eq, eq-or-lt_of_le, mul-one, mul_assoc, mul-le-mul_left, mul-le-mul_right, le_of_suc-le-suc, arith, ltb-true, ltb-false, pow_pos, pow_mono}
use Rattle.std.proofs.Math.Nat.{pow-succ'}
use Rattle.std.specs.Float.{nan, inf, fin, binary64}
use Rattle.std.specs.Float.Ieee.{le, lt, fits, of_fields, odd}
use Rattle.std.specs.Float.Ieee.Exact.{HasValue, odd_sign}
use Rattle.std.specs.Float.Ieee.Order.{le_of_values}
use Rattle.checked.specs.Checked.{is_finite}
use Rattle.checked.specs.Patterns.{bits, high_word}
use Rattle.order.specs.Order.{le_trans_of, lt_not_le}
use Rattle.checked.specs.Numbers.{literal}
use Rattle.float_bits.specs.FloatBits.{size, fabs}
use Rattle.float_bits.specs.Laws.{fabs_bits}
use Rattle.float_bits.specs.Signs.{finite_exponent}
use Rattle.rounding.specs.Patterns.{fields, mid_value}
use Rattle.float_bounds.specs.Intervals.{Upto}

-- the magnitude of an exponent's field and digits, in units of 2 ^ -1074
abbrev mag : ℕ → ℕ → ℕ
mag zero t = t
mag (suc k) t = (2 ^ 52 + t) * 2 ^ k

mag_value : (x t : ℕ) → x < 2047 → HasValue (of_fields binary64 false x t) false (mag x t) (2 ^ 1074)
unfolding of_fields
mag_value zero t X = subst (λ (k : ℕ). HasValue (odd 53 false t 0 1074) false k (2 ^ 1074)) (mul-one t) (odd_sign 53 false t 0 1074)
mag_value (suc k) t X = mid_value binary64 false k t (apart k X)
  where
    apart : (k : ℕ) → suc k < 2047 → suc k ≢ 2047
    apart k h e = omega arith

pattern_value : (b : ℕ) → b < 2047 * 2 ^ 52 → HasValue (literal b) false (mag (b / 2 ^ 52) (b % 2 ^ 52)) (2 ^ 1074)
pattern_value b h =
    subst (λ (v : Float). HasValue v false (mag (b / 2 ^ 52) (b % 2 ^ 52)) (2 ^ 1074))
    (sym (fields binary64 false (b / 2 ^ 52) (b % 2 ^ 52) (field b h) (digits b)) ∙ ap literal (whole b))
    (mag_value (b / 2 ^ 52) (b % 2 ^ 52) (below b h))
  where
    field : (b : ℕ) → b < 2047 * 2 ^ 52 → b / 2 ^ 52 < 2048
    field b h = omega arith

    below : (b : ℕ) → b < 2047 * 2 ^ 52 → b / 2 ^ 52 < 2047
    below b h = omega arith

    digits : (b : ℕ) → b % 2 ^ 52 < 2 ^ 52
    digits b = omega arith

    whole : (b : ℕ) → 0 + (b / 2 ^ 52 * 2 ^ 52 + b % 2 ^ 52) ≡ b
    whole b = omega arith

mag_same : (x t u : ℕ) → t ≤ u → mag x t ≤ mag x u
mag_same zero t u h = h
mag_same (suc k) t u h = mul-le-mul_right (2 ^ k) (more t u h)
  where
    more : (t u : ℕ) → t ≤ u → 2 ^ 52 + t ≤ 2 ^ 52 + u
    more t u h = omega arith

mag_most : (x t : ℕ) → t < 2 ^ 52 → mag x t ≤ 2 ^ 52 * 2 ^ x
mag_most zero t h = omega arith
mag_most (suc k) t h = le_trans (mul-le-mul_right (2 ^ k) (twice t h)) (le_of_eq (mul_assoc (2 ^ 52) 2 (2 ^ k) ∙ ap (λ (n : ℕ). 2 ^ 52 * n) (sym (pow-succ' 2 k))))
  where
    twice : (t : ℕ) → t < 2 ^ 52 → 2 ^ 52 + t ≤ 2 ^ 52 * 2
    twice t h = omega arith

mag_less : (x t y u : ℕ) → t < 2 ^ 52 → x < y → mag x t ≤ mag y u
mag_less x t zero u h l = absurd (omega arith)
mag_less x t (suc j) u h l = le_trans (mag_most x t h) (le_trans (mul-le-mul_left (2 ^ 52) (pow_mono (le_of_suc-le-suc l))) (mul-le-mul_right (2 ^ j) (more u)))
  where
    more : (u : ℕ) → 2 ^ 52 ≤ 2 ^ 52 + u
    more u = omega arith

pub pattern_le : (a b : ℕ) → a ≤ b → b < 2047 * 2 ^ 52 → T (le (literal a) (literal b))
pattern_le a b h B =
    le_of_values (literal a) (literal b) (mag (a / 2 ^ 52) (a % 2 ^ 52)) (2 ^ 1074) (mag (b / 2 ^ 52) (b % 2 ^ 52)) (2 ^ 1074) (pow_pos 1074) (pow_pos 1074) (pattern_value a (less a b h B)) (pattern_value b B)
    (mul-le-mul_right (2 ^ 1074) (order (eq-or-lt_of_le (fields_le a b h))))
  where
    less : (a b : ℕ) → a ≤ b → b < 2047 * 2 ^ 52 → a < 2047 * 2 ^ 52
    less a b h k = omega arith

    fields_le : (a b : ℕ) → a ≤ b → a / 2 ^ 52 ≤ b / 2 ^ 52
    fields_le a b h = omega arith

    digits : (a : ℕ) → a % 2 ^ 52 < 2 ^ 52
    digits a = omega arith

    rest : (a b : ℕ) → a ≤ b → a / 2 ^ 52 ≡ b / 2 ^ 52 → a % 2 ^ 52 ≤ b % 2 ^ 52
    rest a b h e = omega arith

    order : (a / 2 ^ 52 ≡ b / 2 ^ 52) ⊎ (a / 2 ^ 52 < b / 2 ^ 52) → mag (a / 2 ^ 52) (a % 2 ^ 52) ≤ mag (b / 2 ^ 52) (b % 2 ^ 52)
    order (inl e) = subst (λ (x : ℕ). mag (a / 2 ^ 52) (a % 2 ^ 52) ≤ mag x (b % 2 ^ 52)) e (mag_same (a / 2 ^ 52) (a % 2 ^ 52) (b % 2 ^ 52) (rest a b h e))
    order (inr l) = mag_less (a / 2 ^ 52) (a % 2 ^ 52) (b / 2 ^ 52) (b % 2 ^ 52) (digits a) l

-- ---- by the high word

pub below_word : (x : Float) (k : ℕ) → T (fits binary64 x) → high_word x < k → k < 0x7ff00000 → Upto (literal (k * 2 ^ 32)) x
below_word x k F h K = subst (λ (v : Float). T (le v (literal (k * 2 ^ 32)))) (fabs_bits x F) (pattern_le (size x) (k * 2 ^ 32) (under (bits x) k h) (top k K))
  where
    under : (b k : ℕ) → b / 2 ^ 32 % 2 ^ 31 < k → b % 2 ^ 63 ≤ k * 2 ^ 32
    under b k h = omega arith

    top : (k : ℕ) → k < 0x7ff00000 → k * 2 ^ 32 < 2047 * 2 ^ 52
    top k h = omega arith

pub above_word : (x : Float) (k : ℕ) → T (fits binary64 x) → k ≤ high_word x → high_word x < 0x7ff00000 → T (le (literal (k * 2 ^ 32)) (fabs x))
above_word x k F h K = subst (λ (v : Float). T (le (literal (k * 2 ^ 32)) v)) (fabs_bits x F) (pattern_le (k * 2 ^ 32) (size x) (over (bits x) k h) (top (bits x) K))
  where
    over : (b k : ℕ) → k ≤ b / 2 ^ 32 % 2 ^ 31 → k * 2 ^ 32 ≤ b % 2 ^ 63
    over b k h = omega arith

    top : (b : ℕ) → b / 2 ^ 32 % 2 ^ 31 < 0x7ff00000 → b % 2 ^ 63 < 2047 * 2 ^ 52
    top b h = omega arith

-- a finite number's exponent is below the infinity's
finite_word : (x : Float) → T (is_finite x) → T (fits binary64 x) → high_word x < 0x7ff00000
finite_word nan X F = absurd (unfold is_finite in X)
finite_word (inf s) X F = absurd (unfold is_finite in X)
finite_word (fin s m e) X F = less (bits (fin s m e)) (finite_exponent s m e F)
  where
    less : (b : ℕ) → b % 2 ^ 63 / 2 ^ 52 < 2047 → b / 2 ^ 32 % 2 ^ 31 < 0x7ff00000
    less b h = omega arith

-- at most the number of the word k, whose next word is a larger number's
pub word_most : (x : Float) (k : ℕ) → T (fits binary64 x) → T (is_finite x) → T (lt (literal (k * 2 ^ 32)) (literal (suc k * 2 ^ 32))) → Upto (literal (k * 2 ^ 32)) x → high_word x ≤ k
word_most x k F X l h = by (ltb k (high_word x)) refl
  where
    by : (b : Bool) → ltb k (high_word x) ≡ b → high_word x ≤ k
    by true e = absurd (lt_not_le (literal (k * 2 ^ 32)) (literal (suc k * 2 ^ 32)) l (le_trans_of (literal (suc k * 2 ^ 32)) (fabs x) (literal (k * 2 ^ 32)) (above_word x (suc k) F (ltb-true k (high_word x) e) (finite_word x X F)) h))
    by false e = ltb-false k (high_word x) e
