-- Comparisons joined, and numbers by the side of 0 that they lie on. Assumes nothing.
use Rattle.std.specs.Prelude.{◌≡◌, Bool, true, false, not, ℕ, ◌+◌, ◌*◌, ◌≤◌, T, Float}
use Rattle.std.proofs.Common.{subst, arith}
use Rattle.std.specs.Float.{nan, inf, fin}
use Rattle.std.specs.Float.Ieee.{up, down, neg, le, lt, is_nan}
use Rattle.checked.specs.Checked.{is_finite}
use Rattle.order.specs.Order.{Number, le_numbers, not_lt_le, le_trans_of, lt_not_le, lt_le}
use Rattle.float_bits.specs.FloatBits.{fabs}
use Rattle.float_bounds.specs.Parts.{nought}
use Rattle.float_bounds.proofs.Parts.{le_parts, le_back}

decided : (b : Bool) → (T (not b) → ⊥) → T b
decided true h = tt
decided false h = absurd (h tt)

pub lt_le_trans : (a b c : Float) → T (lt a b) → T (le b c) → T (lt a c)
lt_le_trans a b c h k = decided (lt a c) (λ n. lt_not_le a b h (le_trans_of b c a k (not_lt_le a c (le_numbers a b (lt_le a b h)).0 (le_numbers b c k).1 n)))

pub le_lt_trans : (a b c : Float) → T (le a b) → T (lt b c) → T (lt a c)
le_lt_trans a b c h k = decided (lt a c) (λ n. lt_not_le b c k (le_trans_of c a b (not_lt_le a c (le_numbers a b h).0 (le_numbers b c (lt_le b c k)).1 n) h))

pub not_le_lt : (a b : Float) → Number a → Number b → le a b ≡ false → T (lt b a)
not_le_lt a b A B h = decided (lt b a) (λ n. subst T h (not_lt_le b a B A n))

-- a finite number is no NaN
number : (x : Float) → T (is_finite x) → Number x
unfolding is_finite is_nan
number nan h = absurd h
number (inf s) h = absurd h
number (fin s m e) h = tt

-- a magnitude that is 0 has no side
none : (a d : ℕ) → a * 1 + 0 * d ≤ 0 * d + 0 * 1 → a * d + a * d ≤ 0 * d + 0 * d
none a d h = let z : a ≡ 0 = omega arith in rw z (omega arith)

-- a number not above 0 is its magnitude turned about 0
pub below_size : (t : Float) → T (is_finite t) → T (le t nought) → T (le t (neg (fabs t)))
unfolding is_finite fabs neg
below_size nan X h = absurd X
below_size (inf s) X h = absurd X
below_size (fin true m e) X h = le_back (fin true m e) (fin true m e) tt tt (omega arith)
below_size (fin false m e) X h = le_back (fin false m e) (fin true m e) tt tt (none (m * up e) (down e) (le_parts (fin false m e) nought tt tt h))

-- one not below 0 is its magnitude
pub above_size : (t : Float) → T (is_finite t) → T (le nought t) → T (le (fabs t) t)
unfolding is_finite fabs
above_size nan X h = absurd X
above_size (inf s) X h = absurd X
above_size (fin false m e) X h = le_back (fin false m e) (fin false m e) tt tt (omega arith)
above_size (fin true m e) X h = le_back (fin false m e) (fin true m e) tt tt (twice (m * up e) (down e) (le_parts nought (fin true m e) tt tt h))
  where
    twice : (a d : ℕ) → 0 * d + a * 1 ≤ 0 * 1 + 0 * d → a * d + a * d ≤ 0 * d + 0 * d
    twice a d h = let z : a ≡ 0 = omega arith in rw z (omega arith)
