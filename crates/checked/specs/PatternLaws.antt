-- Which patterns are those of numbers. Assumes nothing.
use Rattle.std.specs.Prelude.{◌≡◌, refl, Bool, true, false, not, ℕ, ◌-◌, ◌*◌, ◌/◌, ◌%◌, ◌^◌, ◌<◌, ◌≤◌, T, ltb, Float}
use Rattle.std.proofs.Common.{sym, ap, ◌∙◌, subst, arith, eq-eqb, lt-ltb, le-ltb, ltb-false}
use Rattle.std.specs.Float.{nan, inf, fin, binary64}
use Rattle.std.specs.Float.Ieee.{up, down, level, ne, eq, is_nan, to_bits, of_bits, nan_bits, fits}
use Rattle.std.specs.Float.Ieee.Bits.{of_bits-to_bits, nan_bits_is, nan_bits_above}
use Rattle.std.specs.Float.Ieee.Compare.{differs_from_itself}

-- a test's outcome as a fact
pub yes : {b : Bool} → b ≡ true → T b
yes h = subst T (sym h) tt

pub no : {b : Bool} → b ≡ false → T (not b)
no h = subst (λ (a : Bool). T (not a)) (sym h) tt

-- `x != x` is the test for a NaN
same_level : (s : Bool) (a : ℕ) → level s a s a ≡ true
same_level true a = simp (eq-eqb a a refl)
same_level false a = simp (eq-eqb a a refl)

pub ne_self : (x : Float) → ne x x ≡ is_nan x
unfolding ne eq is_nan
ne_self nan = refl
ne_self (inf true) = refl
ne_self (inf false) = refl
ne_self (fin s m e) = ap not (same_level s (m * up e * down e))

-- a number that equals itself is no NaN
pub own_no_nan : (x : Float) → ne x x ≡ false → T (not (is_nan x))
own_no_nan x h = no (sym (ne_self x) ∙ h)

-- the pattern of a NaN
pub nan_bits_lem : (x : Float) → ne x x ≡ true → 0x7ff8_0000_0000_0000 ≡ to_bits binary64 x
nan_bits_lem x h = sym (ap (to_bits binary64) (differs_from_itself x (yes h)) ∙ (unfold to_bits in refl))

-- a pattern above the infinity's, its sign apart, is a NaN's; any other is a number's
pub number_pattern : (b : ℕ) → b % 2 ^ 63 ≤ 0x7ff0_0000_0000_0000 → T (not (nan_bits binary64 b))
number_pattern b h = no (nan_bits_above binary64 b ∙ le-ltb 0x7ff0_0000_0000_0000 (b % 2 ^ 63) h)

is_nan_lem : (x : Float) → T (is_nan x) → x ≡ nan
unfolding is_nan
is_nan_lem nan t = refl
is_nan_lem (inf s) t = absurd t
is_nan_lem (fin s m e) t = absurd t

pub nan_pattern : (b : ℕ) → 0x7ff0_0000_0000_0000 < b % 2 ^ 63 → nan ≡ of_bits binary64 b
nan_pattern b h = sym (is_nan_lem (of_bits binary64 b) (yes (sym (nan_bits_is binary64 b) ∙ (nan_bits_above binary64 b ∙ lt-ltb 0x7ff0_0000_0000_0000 (b % 2 ^ 63) h))))

-- ---- the pattern with its low word cleared
pub upper_bits : (b : ℕ) → b - b % 2 ^ 32 ≡ b / 2 ^ 32 * 2 ^ 32
upper_bits b = omega arith

upper_le : (b : ℕ) → b % 2 ^ 63 ≤ 2047 * 2 ^ 52 → (b - b % 2 ^ 32) % 2 ^ 63 ≤ 2047 * 2 ^ 52
upper_le b h = omega arith

pub upper_no_nan : (x : Float) → T (fits binary64 x) → ne x x ≡ false → T (not (nan_bits binary64 (to_bits binary64 x - to_bits binary64 x % 2 ^ 32)))
upper_no_nan x F h =
    let b = to_bits binary64 x in
    let is : ltb (2047 * 2 ^ 52) (b % 2 ^ 63) ≡ false = sym (nan_bits_above binary64 b) ∙ nan_bits_is binary64 b ∙ ap is_nan (of_bits-to_bits binary64 x F) ∙ sym (ne_self x) ∙ h in
    no (nan_bits_above binary64 (b - b % 2 ^ 32) ∙ le-ltb (2047 * 2 ^ 52) ((b - b % 2 ^ 32) % 2 ^ 63) (upper_le b (ltb-false (2047 * 2 ^ 52) (b % 2 ^ 63) is)))

pub upper_of_nan : (x : Float) → ne x x ≡ true → x ≡ of_bits binary64 (to_bits binary64 x / 2 ^ 32 * 2 ^ 32)
upper_of_nan x h =
    let e = differs_from_itself x (yes h) in
    e ∙ sym (ap (λ (v : Float). of_bits binary64 (to_bits binary64 v / 2 ^ 32 * 2 ^ 32)) e ∙ (unfold to_bits of_bits in refl))
