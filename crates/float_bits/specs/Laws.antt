-- A number, its pattern without the sign, and what these read as. Assumes nothing.
use Rattle.std.specs.Prelude.{◌≡◌, [], ◌∷◌, Bool, true, false, not, cond, ℕ, zero, suc, ◌+◌, ◌-◌, ◌*◌, ◌/◌, ◌%◌, ◌^◌, ◌<◌, ◌≤◌, get_or, T, leb, ltb, eqb, Float}
use Rattle.std.proofs.Math.Path.{refl}
use Rattle.std.proofs.Common.{sym, ap, ◌∙◌, subst, arith, lt-ltb, le-ltb}
use Rattle.std.proofs.lemmas.Bool.{lt-leb}
use Rattle.std.specs.Float.{nan, inf, fin, Format, binary64}
use Rattle.std.specs.Float.Ieee.{prec, low, hid, ones, odd, ne, is_nan, to_bits, of_bits, of_fields, nan_bits, fits}
use Rattle.std.specs.Float.Ieee.Bits.{of_bits-to_bits, to_bits-of_bits, to_bits-lt, nan_bits_is}
use Rattle.std.specs.Float.Ieee.Compare.{differs_from_itself}
use Rattle.checked.specs.Patterns.{bits, high_word}
use Rattle.checked.specs.PatternLaws.{yes, no, ne_self}
use Rattle.checked.specs.Numbers.{literal}
use Rattle.checked.specs.Refusals.{NOT_FINITE}
use Rattle.checked.specs.Checked.{is_finite, nine}
use Rattle.float_bits.specs.FloatBits.{size, sign, signed, choose, fabs}
use Rattle.float_bits.specs.Computations.{abs_c}

-- ---- |x| is the number of the pattern without its sign

fabs_odd : (d : ℕ) (s : Bool) (q k l : ℕ) → fabs (odd d s q k l) ≡ odd d false q k l
unfolding fabs odd
fabs_odd d s zero k l = refl
fabs_odd d s (suc q) k l = refl

fabs_cond : (a b : Bool) (s : Bool) (v w : Float) → fabs v ≡ w → fabs (cond a (cond b (inf s) nan) v) ≡ cond a (cond b (inf false) nan) w
fabs_cond true true s v w h = unfold fabs in refl
fabs_cond true false s v w h = unfold fabs in refl
fabs_cond false b s v w h = h

fabs_fields : (f : Format) (s : Bool) (x t : ℕ) → fabs (of_fields f s x t) ≡ of_fields f false x t
unfolding of_fields
fabs_fields f s zero t = fabs_odd (prec f) s t 0 (low f)
fabs_fields f s (suc x) t = fabs_cond (eqb (suc x) (ones f)) (eqb t 0) s (odd (prec f) s (hid f + t) x (low f)) (odd (prec f) false (hid f + t) x (low f)) (fabs_odd (prec f) s (hid f + t) x (low f))

of_bits_is : (b : ℕ) → of_bits binary64 b ≡ of_fields binary64 (leb (2 ^ 63) b) (b % 2 ^ 63 / 2 ^ 52) (b % 2 ^ 52)
unfolding of_bits
of_bits_is b = refl

cut : (b : ℕ) → b % 2 ^ 63 < 2 ^ 63
cut b = omega arith

cut_mid : (b : ℕ) → b % 2 ^ 63 % 2 ^ 63 ≡ b % 2 ^ 63
cut_mid b = omega arith

cut_low : (b : ℕ) → b % 2 ^ 63 % 2 ^ 52 ≡ b % 2 ^ 52
cut_low b = omega arith

same_fields : (s s' : Bool) (x x' t t' : ℕ) → s ≡ s' → x ≡ x' → t ≡ t' → of_fields binary64 s x t ≡ of_fields binary64 s' x' t'
same_fields s s' x x' t t' p q r = λ i. of_fields binary64 (p i) (q i) (r i)

pub fabs_bits : (x : Float) → T (fits binary64 x) → literal (size x) ≡ fabs x
fabs_bits x F =
    let b = bits x in
    of_bits_is (b % 2 ^ 63)
    ∙ same_fields (leb (2 ^ 63) (b % 2 ^ 63)) false _ _ _ _ (lt-leb (2 ^ 63) (b % 2 ^ 63) (cut b)) (ap (λ (k : ℕ). k / 2 ^ 52) (cut_mid b)) (cut_low b)
    ∙ sym (fabs_fields binary64 (leb (2 ^ 63) b) (b % 2 ^ 63 / 2 ^ 52) (b % 2 ^ 52))
    ∙ ap fabs (sym (of_bits_is b) ∙ of_bits-to_bits binary64 x F)

pub fabs_nan : (x : Float) → is_nan (fabs x) ≡ is_nan x
unfolding fabs is_nan
fabs_nan nan = refl
fabs_nan (inf s) = refl
fabs_nan (fin s m e) = refl

-- that pattern is a NaN's only where x is one
pub size_number : (x : Float) → T (fits binary64 x) → T (not (is_nan x)) → T (not (nan_bits binary64 (size x)))
size_number x F h = subst (λ (b : Bool). T (not b)) (sym (nan_bits_is binary64 (size x) ∙ ap is_nan (fabs_bits x F) ∙ fabs_nan x)) h

pub fabs_of_nan : (x : Float) → ne x x ≡ true → x ≡ fabs x
fabs_of_nan x h = let e = differs_from_itself x (yes h) in e ∙ sym (ap fabs e ∙ (unfold fabs in refl))

-- ---- what |x| reads as

bits_nan : bits (fabs nan) ≡ size nan
unfolding fabs to_bits
bits_nan = refl

pub bits_fabs : (x : Float) → T (fits binary64 x) → bits (fabs x) ≡ size x
bits_fabs x F = go (is_nan x) refl
  where
    wide : (b : ℕ) → b % 2 ^ 63 < 2 * (2 ^ 52 * 2048)
    wide b = omega arith

    go : (t : Bool) → is_nan x ≡ t → bits (fabs x) ≡ size x
    go true h =
        let e = differs_from_itself x (yes (ne_self x ∙ h)) in
        ap (λ (v : Float). bits (fabs v)) e ∙ bits_nan ∙ sym (ap size e)
    go false h =
        ap bits (sym (fabs_bits x F))
        ∙ to_bits-of_bits binary64 (size x) (wide (bits x)) (subst (λ (v : Float). T (not (is_nan v))) (sym (fabs_bits x F)) (no (fabs_nan x ∙ h)))

pub high_word_fabs : (x : Float) → T (fits binary64 x) → high_word (fabs x) ≡ high_word x
high_word_fabs x F = ap (λ (b : ℕ). b / 2 ^ 32 % 2 ^ 31) (bits_fabs x F) ∙ same_word (bits x)
  where
    same_word : (b : ℕ) → b % 2 ^ 63 / 2 ^ 32 % 2 ^ 31 ≡ b / 2 ^ 32 % 2 ^ 31
    same_word b = omega arith

sign_fabs : (x : Float) → T (fits binary64 x) → sign (fabs x) ≡ 0
sign_fabs x F = ap (λ (b : ℕ). b / 2 ^ 63) (bits_fabs x F) ∙ no_top (bits x)
  where
    no_top : (b : ℕ) → b % 2 ^ 63 / 2 ^ 63 ≡ 0
    no_top b = omega arith

pub signed_fabs : (x : Float) → T (fits binary64 x) → (z : Float) → signed (sign (fabs x)) z ≡ z
unfolding signed
signed_fabs x F z = ap (λ (k : ℕ). signed k z) (sign_fabs x F)

pub fabs_twice : (x : Float) → fabs (fabs x) ≡ fabs x
unfolding fabs
fabs_twice nan = refl
fabs_twice (inf s) = refl
fabs_twice (fin s m e) = refl

pub fabs_fits : (x : Float) → T (fits binary64 x) → T (fits binary64 (fabs x))
unfolding fits fabs
fabs_fits nan h = h
fabs_fits (inf s) h = h
fabs_fits (fin s zero e) h = h
fabs_fits (fin s (suc m) e) h = h

-- the high word of a NaN
pub nan_high : (x : Float) → is_nan x ≡ true → high_word x ≡ 0x7ff80000
unfolding to_bits
nan_high x h = ap high_word (differs_from_itself x (yes (ne_self x ∙ h)))

-- a sign is 0 or 1
pub sign_most : (x : Float) → T (fits binary64 x) → sign x < 2
sign_most x F = small (bits x) (to_bits-lt binary64 x F)
  where
    small : (b : ℕ) → b < 2 * (2 ^ 52 * 2048) → b / 2 ^ 63 < 2
    small b h = omega arith

-- ---- a test of the difference of two exponents, from the code's test of a sum

pub gap_yes : (a b k : ℕ) → a + k < b → ltb k (b - a) ≡ true
gap_yes a b k h = lt-ltb k (b - a) (omega arith)

pub gap_no : (a b k : ℕ) → b ≤ a + k → ltb k (b - a) ≡ false
gap_no a b k h = le-ltb k (b - a) (omega arith)

-- ---- a choice among four is a place in a table

pub chosen : (m : ℕ) (a b c d : Float) → m < 4 → get_or (a ∷ b ∷ c ∷ d ∷ []) m nan ≡ choose m a b c d
unfolding choose
chosen zero a b c d h = refl
chosen (suc zero) a b c d h = refl
chosen (suc (suc zero)) a b c d h = refl
chosen (suc (suc (suc zero))) a b c d h = refl
chosen (suc (suc (suc (suc m)))) a b c d h = absurd (omega arith)

-- ---- |x| is finite exactly where x is, so a note of either is a note of the other

pub abs_finite : (x : Float) → is_finite (fabs x) ≡ is_finite x
unfolding fabs is_finite
abs_finite nan = refl
abs_finite (inf s) = refl
abs_finite (fin s m e) = refl

pub abs_nine : (x : Float) → nine (fabs x) ≡ nine x
unfolding nine
abs_nine x = ap (λ (b : Bool). cond b 0 NOT_FINITE) (abs_finite x)

pub ruleset rules = (abs_c, abs_nine, abs_finite)
