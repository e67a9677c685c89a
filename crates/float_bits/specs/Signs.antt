-- The sign of a number above or below 0, and which patterns have the zeros and the finite numbers.
-- Assumes nothing.
use Rattle.std.specs.Prelude.{◌≡◌, refl, Bool, true, false, cond, ℕ, ◌+◌, ◌*◌, ◌/◌, ◌%◌, ◌^◌, ◌<◌, ℤ, pos, T, ltb, eqb, Float}
use Rattle.std.proofs.Common.{sym, ap, ◌∙◌, subst, arith, ltb→lt, ne_eqb}
use Rattle.std.proofs.lemmas.Bool.{lt-leb}
use Rattle.std.specs.Float.{nan, inf, fin, binary64}
use Rattle.std.specs.Float.Ieee.{up, down, lt, is_nan, to_bits, of_bits, of_fields, fits}
use Rattle.checked.specs.Patterns.{bits}
use Rattle.checked.specs.Numbers.{literal}
use Rattle.float_bits.specs.FloatBits.{size, sign, fabs}
use Rattle.float_bits.specs.Laws.{fabs_bits, bits_fabs}

-- +0, and the zero of a sign
abbrev pub nought : Float
nought = fin false 0 (pos 0)

abbrev pub nought_of : Bool → Float
nought_of s = fin s 0 (pos 0)

-- ---- the sign's bit is 1 where the number has a minus sign

apart : (s : Bool) (m : ℕ) (e : ℤ) → bits (fin s m e) ≡ cond s (2 ^ 63) 0 + bits (fin false m e)
unfolding to_bits
apart true m e = omega arith
apart false m e = omega arith

sign_fin : (s : Bool) (m : ℕ) (e : ℤ) → T (fits binary64 (fin s m e)) → sign (fin s m e) ≡ cond s 1 0
unfolding fabs
sign_fin s m e F = by s (bits (fin false m e)) (bits (fin s m e)) (apart s m e) (bits_fabs (fin s m e) F)
  where
    by : (s : Bool) (a b : ℕ) → b ≡ cond s (2 ^ 63) 0 + a → a ≡ b % 2 ^ 63 → b / 2 ^ 63 ≡ cond s 1 0
    by true a b p q = omega arith
    by false a b p q = omega arith

pub above_sign : (x : Float) → T (fits binary64 x) → T (lt nought x) → sign x ≡ 0
unfolding lt to_bits
above_sign nan F h = absurd h
above_sign (inf true) F h = absurd h
above_sign (inf false) F h = refl
above_sign (fin true m e) F h = absurd h
above_sign (fin false m e) F h = sign_fin false m e F

not_less : (a d : ℕ) → T (ltb a (0 * d)) → ⊥
not_less a d h = let l : a < 0 * d = ltb→lt a (0 * d) h in omega arith

pub below_sign : (x : Float) → T (fits binary64 x) → T (lt x nought) → sign x ≡ 1
unfolding lt to_bits
below_sign nan F h = absurd h
below_sign (inf true) F h = refl
below_sign (inf false) F h = absurd h
below_sign (fin true m e) F h = sign_fin true m e F
below_sign (fin false m e) F h = absurd (not_less (m * up e * 1) (down e) h)

-- ---- a number above or below 0 is no NaN, and its pattern is no zero's

pub above_no_nan : (x : Float) → T (lt nought x) → is_nan x ≡ false
unfolding lt is_nan
above_no_nan nan h = absurd h
above_no_nan (inf s) h = refl
above_no_nan (fin s m e) h = refl

pub below_no_nan : (x : Float) → T (lt x nought) → is_nan x ≡ false
unfolding lt is_nan
below_no_nan nan h = absurd h
below_no_nan (inf s) h = refl
below_no_nan (fin s m e) h = refl

zero_number : literal 0 ≡ nought
unfolding of_bits
zero_number = refl

same_kind : (s t : Bool) (m n : ℕ) (d e : ℤ) → fin s m d ≡ fin t n e → m ≡ n
same_kind s t m n d e p = cc

zero_above : (x : Float) → fabs x ≡ nought → T (lt nought x) → ⊥
unfolding fabs lt
zero_above nan p h = h
zero_above (inf true) p h = h
zero_above (inf false) p h = let z : ◌≡◌ {A = ℕ} 0 1 = cc in omega arith
zero_above (fin true m e) p h = h
zero_above (fin false m e) p h = none (up e) (down e) (subst (λ (k : ℕ). T (ltb (0 * down e) (k * up e * 1))) (same_kind false false m 0 e (pos 0) p) h)
  where
    none : (u d : ℕ) → T (ltb (0 * d) (0 * u * 1)) → ⊥
    none u d h = let l : 0 * d < 0 * u * 1 = ltb→lt (0 * d) (0 * u * 1) h in omega arith

zero_below : (x : Float) → fabs x ≡ nought → T (lt x nought) → ⊥
unfolding fabs lt
zero_below nan p h = h
zero_below (inf true) p h = let z : ◌≡◌ {A = ℕ} 0 1 = cc in omega arith
zero_below (inf false) p h = h
zero_below (fin true m e) p h = none (up e) (down e) (subst (λ (k : ℕ). T (ltb 0 (k * up e * 1 + 0 * down e))) (same_kind false false m 0 e (pos 0) p) h)
  where
    none : (u d : ℕ) → T (ltb 0 (0 * u * 1 + 0 * d)) → ⊥
    none u d h = let l : 0 < 0 * u * 1 + 0 * d = ltb→lt 0 (0 * u * 1 + 0 * d) h in omega arith
zero_below (fin false m e) p h = not_less (m * up e * 1) (down e) h

pub above_size : (x : Float) → T (fits binary64 x) → T (lt nought x) → eqb (size x) 0 ≡ false
above_size x F h = ne_eqb (size x) 0 (λ e. zero_above x (sym (fabs_bits x F) ∙ ap literal e ∙ zero_number) h)

pub below_size : (x : Float) → T (fits binary64 x) → T (lt x nought) → eqb (size x) 0 ≡ false
below_size x F h = ne_eqb (size x) 0 (λ e. zero_below x (sym (fabs_bits x F) ∙ ap literal e ∙ zero_number) h)

-- ---- a finite number's exponent is below the infinity's

top_field : (m : ℕ) (e : ℤ) (b : Bool) → cond b (inf false) nan ≡ fin false m e → ⊥
top_field m e true p = let z : ◌≡◌ {A = ℕ} 0 1 = cc in omega arith
top_field m e false p = let z : ◌≡◌ {A = ℕ} 0 1 = cc in omega arith

infinite : (b : ℕ) → b < 2 ^ 63 → b / 2 ^ 52 ≡ 2047 → of_bits binary64 b ≡ cond (eqb (b % 2 ^ 52) 0) (inf false) nan
unfolding of_bits of_fields
infinite b l h =
    (λ i. of_fields binary64 (lt-leb (2 ^ 63) b l i) ((whole b l ∙ h) i) (b % 2 ^ 52))
  where
    whole : (b : ℕ) → b < 2 ^ 63 → b % 2 ^ 63 / 2 ^ 52 ≡ b / 2 ^ 52
    whole b l = omega arith

pub finite_exponent : (s : Bool) (m : ℕ) (e : ℤ) → T (fits binary64 (fin s m e)) → size (fin s m e) / 2 ^ 52 < 2047
unfolding fabs
finite_exponent s m e F = less (bits (fin s m e)) (λ h. top_field m e (eqb (size (fin s m e) % 2 ^ 52) 0) (sym (infinite (size (fin s m e)) (under (bits (fin s m e))) h) ∙ fabs_bits (fin s m e) F))
  where
    under : (b : ℕ) → b % 2 ^ 63 < 2 ^ 63
    under b = omega arith

    less : (b : ℕ) → (b % 2 ^ 63 / 2 ^ 52 ≡ 2047 → ⊥) → b % 2 ^ 63 / 2 ^ 52 < 2047
    less b n = omega arith
