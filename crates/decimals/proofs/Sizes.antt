-- The thousandths of a number that is given by the fields of its bit pattern. Assumes nothing.
use mathlib.Core.Path.{◌≡◌, refl, sym, ap, ◌∙◌, subst}
use mathlib.Core.Logic.{◌≢◌}
use mathlib.Core.Bool.{Bool, true, false, cond}
use Prim.Native.Nat.{ℕ, zero, suc, ◌+◌, ◌-◌, ◌*◌, ◌/◌, ◌%◌, ◌^◌, ◌≤◌, ◌<◌}
use native.Mathlib.Nat.{le_trans, lt_of_lt_of_le, le-add_right, mul_comm, mul_assoc, mul_left_comm, mul-one, mul-le-mul_left, mul-le-mul_right, mul-lt-mul_of_pos_right, add-div_right, div-div-eq-div-mul, div-eq_of_lt, le-div_iff_mul-le}
use native.Mathlib.Omega.{arith}
use lib.Dec.{T, leb, eqb, eqb→eq, not_T, lit≤}
use borrow.Author.Tests.{le-leb, lt-leb, leb-true, leb-false}
use lib.Pow.{pow-add, pow_pos, pow_mono}
use lib.Ieee.{Float, nan, inf, fin, binary64, up, down, odd, of_fields, of_bits, to_bits, fits}
use lib.Ieee.Fits.{down_pos}
use lib.Ieee.Bits.{of_bits-to_bits, cond_no}
use lib.Ieee.Exact.{HasValue, odd_sign}
use lib.Ieee.Nearest.{div_same}
use lib.IntN.{ℤ, pos, negsuc, ◌-ℤ◌, +ℤ_idl}
use mir.Syntax.{w64}
use mir.Val.{SFits, to_z, of_z}
use Rattle.std.proofs.Math.Facts.{to_z_pos, to_z-of_z}
use Rattle.checked.specs.Refusals.{COUNT_TOO_LARGE}
use Rattle.checked.specs.Checked.{due, refused}
use Rattle.checked.specs.Tests.{fails}
use Rattle.checked.specs.TestsLaws.{holds}
use Rattle.checked.specs.Told.{number}
use Rattle.checked.specs.ToldLaws.{number_some}
use Rattle.checked.specs.declared.Refusal.{Refusal}
use Rattle.decimals.specs.Thousandths.{nearest_up, signed, counted, most, thousandths}

-- ---- the nearest whole number: twice the fraction, cut, tells it
pub halves : (n d : ℕ) → 0 < d → nearest_up n d ≡ (2 * n / d + 1) / 2
halves n d D =
    ap (λ (k : ℕ). (2 * n + d) / k) (mul_comm 2 d)
    ∙ sym (div-div-eq-div-mul (2 * n + d) d 2)
    ∙ ap (λ (k : ℕ). k / 2) (add-div_right (2 * n) D)

thousand_twice : (a b c d : ℕ) → a * d ≡ b * c → 2 * (1000 * a) * d ≡ 2 * (1000 * b) * c
thousand_twice a b c d h =
    mul_assoc 2 (1000 * a) d ∙ ap (λ (k : ℕ). 2 * k) (mul_assoc 1000 a d ∙ ap (λ (k : ℕ). 1000 * k) h ∙ sym (mul_assoc 1000 b c)) ∙ sym (mul_assoc 2 (1000 * b) c)

-- it goes by the fraction alone
same_nearest : (a b c d : ℕ) → 0 < c → 0 < d → a * d ≡ b * c → nearest_up (1000 * a) c ≡ nearest_up (1000 * b) d
same_nearest a b c d C D h =
    halves (1000 * a) c C
    ∙ ap (λ (k : ℕ). (k + 1) / 2) (div_same (2 * (1000 * a)) c (2 * (1000 * b)) d C D (thousand_twice a b c d h))
    ∙ sym (halves (1000 * b) d D)

by_value : (x : Float) (s : Bool) (a c : ℕ) → 0 < c → HasValue x s a c → thousandths x ≡ counted s (nearest_up (1000 * a) c)
unfolding thousandths
by_value nan s a c C v = absurd v
by_value (inf t) s a c C v = absurd v
by_value (fin t m e) s a c C v =
    ap (λ (b : Bool). counted b (nearest_up (1000 * (m * up e)) (down e))) v.0
    ∙ ap (counted s) (same_nearest (m * up e) a (down e) c (down_pos e) C v.1)

-- ---- the fields of a number
low_value : (s : Bool) (t : ℕ) → HasValue (of_fields binary64 s 0 t) s t (2 ^ 1074)
unfolding of_fields
low_value s t = subst (λ (k : ℕ). HasValue (odd 53 s t 0 1074) s k (2 ^ 1074)) (mul-one t) (odd_sign 53 s t 0 1074)

mid_value : (s : Bool) (j t : ℕ) → suc j ≢ 2047 → HasValue (of_fields binary64 s (suc j) t) s ((2 ^ 52 + t) * 2 ^ j) (2 ^ 1074)
unfolding of_fields
mid_value s j t n =
    subst (λ (v : Float). HasValue v s ((2 ^ 52 + t) * 2 ^ j) (2 ^ 1074))
    (sym (cond_no (eqb (suc j) 2047) (cond (eqb t 0) (inf s) nan) (odd 53 s (2 ^ 52 + t) j 1074) (not_T (eqb (suc j) 2047) (λ u. n (eqb→eq (suc j) 2047 u)))))
    (odd_sign 53 s (2 ^ 52 + t) j 1074)

none_left : (s : Bool) (a : ℕ) → a < 2 ^ 1063 → counted s (nearest_up (1000 * a) (2 ^ 1074)) ≡ counted s 0
none_left s a h =
    ap (counted s) (halves (1000 * a) (2 ^ 1074) (pow_pos 1074) ∙ ap (λ (k : ℕ). (k + 1) / 2) (div-eq_of_lt (small a (2 ^ 1063) h)))
  where
    small : (k p : ℕ) → k < p → 2 * (1000 * k) < 2048 * p
    small k p l = omega arith

significand : (t j : ℕ) → t < 2 ^ 52 → j ≤ 1010 → (2 ^ 52 + t) * 2 ^ j < 2 ^ 1063
significand t j h l = lt_of_lt_of_le (mul-lt-mul_of_pos_right (full t h) (pow_pos j)) (mul-le-mul_left (2 ^ 53) (pow_mono l))
  where
    full : (k : ℕ) → k < 2 ^ 52 → 2 ^ 52 + k < 2 ^ 53
    full k g = omega arith

-- below 2 ^ -11
pub nothing : (s : Bool) (k t : ℕ) → k < 1012 → t < 2 ^ 52 → counted s 0 ≡ thousandths (of_fields binary64 s k t)
nothing s zero t K H = sym (by_value (of_fields binary64 s 0 t) s t (2 ^ 1074) (pow_pos 1074) (low_value s t) ∙ none_left s t (lt_of_lt_of_le H (lit≤ tt)))
nothing s (suc j) t K H =
    sym (by_value (of_fields binary64 s (suc j) t) s ((2 ^ 52 + t) * 2 ^ j) (2 ^ 1074) (pow_pos 1074) (mid_value s j t (under j K))
    ∙ none_left s ((2 ^ 52 + t) * 2 ^ j) (significand t j H (least j K)))
  where
    under : (i : ℕ) → suc i < 1012 → suc i ≡ 2047 → ⊥
    under i l e = omega arith

    least : (i : ℕ) → suc i < 1012 → i ≤ 1010
    least i l = omega arith

-- from 2 ^ -11 on and below 2 ^ 20
pub some : (s : Bool) (k t : ℕ) → 1012 ≤ k → k < 1043 → counted s ((1000 * (t + 2 ^ 52) / 2 ^ (1074 - k) + 1) / 2) ≡ thousandths (of_fields binary64 s k t)
some s zero t L K = absurd (omega arith)
some s (suc j) t L K =
    sym (by_value (of_fields binary64 s (suc j) t) s ((2 ^ 52 + t) * 2 ^ j) (2 ^ 1074) (pow_pos 1074) (mid_value s j t (under j K))
    ∙ ap (counted s) (halves (1000 * ((2 ^ 52 + t) * 2 ^ j)) (2 ^ 1074) (pow_pos 1074)
    ∙ ap (λ (n : ℕ). (n + 1) / 2) (div_same (2 * (1000 * ((2 ^ 52 + t) * 2 ^ j))) (2 ^ 1074) (1000 * (t + 2 ^ 52)) (2 ^ (1074 - suc j)) (pow_pos 1074) (pow_pos (1074 - suc j)) scaled)))
  where
    under : (i : ℕ) → suc i < 1043 → suc i ≡ 2047 → ⊥
    under i l e = omega arith

    powers : (i : ℕ) → suc i < 1043 → 2 ^ i * 2 ^ (1074 - suc i) ≡ 2 ^ 1073
    powers i l = sym (pow-add 2 i (1074 - suc i)) ∙ ap (λ (n : ℕ). 2 ^ n) (sum i l)
      where
        sum : (n : ℕ) → suc n < 1043 → n + (1074 - suc n) ≡ 1073
        sum n h = omega arith

    turned : (m p : ℕ) → 2 * (1000 * (m * p)) ≡ 1000 * m * (2 * p)
    turned m p = sym (mul_left_comm (1000 * m) 2 p ∙ ap (λ (n : ℕ). 2 * n) (mul_assoc 1000 m p))

    scaled : 2 * (1000 * ((2 ^ 52 + t) * 2 ^ j)) * 2 ^ (1074 - suc j) ≡ 1000 * (t + 2 ^ 52) * 2 ^ 1074
    scaled =
        mul_assoc 2 (1000 * ((2 ^ 52 + t) * 2 ^ j)) (2 ^ (1074 - suc j))
        ∙ ap (λ (n : ℕ). 2 * n)
        (mul_assoc 1000 ((2 ^ 52 + t) * 2 ^ j) (2 ^ (1074 - suc j))
        ∙ ap (λ (n : ℕ). 1000 * n) (mul_assoc (2 ^ 52 + t) (2 ^ j) (2 ^ (1074 - suc j)) ∙ ap (λ (n : ℕ). (2 ^ 52 + t) * n) (powers j K)))
        ∙ turned (2 ^ 52 + t) (2 ^ 1073)
        ∙ ap (λ (n : ℕ). 1000 * n * 2 ^ 1074) (swap t)
      where
        swap : (n : ℕ) → 2 ^ 52 + n ≡ n + 2 ^ 52
        swap n = omega arith

-- from 2 ^ 20 on
over : (s : Bool) (size : ℕ) → most < size → refused COUNT_TOO_LARGE ≡ counted s size
over s size h = sym (simp (lt-leb size most h))

pub too_many : (s : Bool) (k t : ℕ) → 1043 ≤ k → counted s (most + 1) ≡ thousandths (of_fields binary64 s k t)
too_many s zero t L = absurd (omega arith)
too_many s (suc j) t L = sym (unfold of_fields in tested (eqb (suc j) 2047) (eqb t 0))
  where
    least : (i : ℕ) → 1043 ≤ suc i → 1042 ≤ i
    least i h = omega arith

    reaches : 2 ^ 20 * 2 ^ 1074 ≤ (2 ^ 52 + t) * 2 ^ j
    reaches = le_trans (mul-le-mul_left (2 ^ 52) (pow_mono (least j L))) (mul-le-mul_right (2 ^ j) (le-add_right (2 ^ 52) t))

    twice : (a p : ℕ) → 2 ^ 20 * p ≤ a → 2097152000 * p ≤ 2 * (1000 * a)
    twice a p h = omega arith

    above : (q : ℕ) → 2097152000 ≤ q → most < (q + 1) / 2
    above q h = omega arith

    above_most : (a : ℕ) → 2 ^ 20 * 2 ^ 1074 ≤ a → most < nearest_up (1000 * a) (2 ^ 1074)
    above_most a h =
        subst (λ (k : ℕ). most < k) (sym (halves (1000 * a) (2 ^ 1074) (pow_pos 1074)))
        (above (2 * (1000 * a) / 2 ^ 1074) ((le-div_iff_mul-le (pow_pos 1074)).1 (twice a (2 ^ 1074) h)))

    finite : thousandths (odd 53 s (2 ^ 52 + t) j 1074) ≡ refused COUNT_TOO_LARGE
    finite =
        by_value (odd 53 s (2 ^ 52 + t) j 1074) s ((2 ^ 52 + t) * 2 ^ j) (2 ^ 1074) (pow_pos 1074) (odd_sign 53 s (2 ^ 52 + t) j 1074)
        ∙ sym (over s (nearest_up (1000 * ((2 ^ 52 + t) * 2 ^ j)) (2 ^ 1074)) (above_most ((2 ^ 52 + t) * 2 ^ j) reaches))

    tested : (a b : Bool) → thousandths (cond a (cond b (inf s) nan) (odd 53 s (2 ^ 52 + t) j 1074)) ≡ refused COUNT_TOO_LARGE
    tested true true = unfold thousandths in refl
    tested true false = unfold thousandths in refl
    tested false b = finite

-- ---- the pattern b of a number x, and the size that its magnitude's pattern has
module _ (x : Float) (F : T (fits binary64 x)) (b size : ℕ) (is : b ≡ to_bits binary64 x)
    (sized : (s : Bool) → counted s size ≡ thousandths (of_fields binary64 s (b % 2 ^ 63 / 2 ^ 52) (b % 2 ^ 63 % 2 ^ 52)))
  where
    cut : (k : ℕ) → k % 2 ^ 52 ≡ k % 2 ^ 63 % 2 ^ 52
    cut k = omega arith

    read : x ≡ of_fields binary64 (leb (2 ^ 63) b) (b % 2 ^ 63 / 2 ^ 52) (b % 2 ^ 63 % 2 ^ 52)
    unfolding of_bits
    read = sym (ap (of_bits binary64) is ∙ of_bits-to_bits binary64 x F) ∙ ap (of_fields binary64 (leb (2 ^ 63) b) (b % 2 ^ 63 / 2 ^ 52)) (cut b)

    answer : counted (leb (2 ^ 63) b) size ≡ thousandths x
    answer = sized (leb (2 ^ 63) b) ∙ sym (ap thousandths read)

    pub few : size ≤ most → due (signed (leb (2 ^ 63) b) size) ≡ thousandths x
    few h = sym (simp (le-leb size most h)) ∙ answer

    pub many : most < size → refused COUNT_TOO_LARGE ≡ thousandths x
    many h = over (leb (2 ^ 63) b) size h ∙ answer

-- ---- the test of the size
pub printed : (n : ℕ) → 0 ≡ fails COUNT_TOO_LARGE (leb n most) → n ≤ most
printed n h = leb-true n most (holds 9 (leb n most) (sym h))

pub above_most : (n : ℕ) (r : Refusal) → number r ≡ fails COUNT_TOO_LARGE (leb n most) → (most < n) × (COUNT_TOO_LARGE ≡ number r)
unfolding fails
above_most n r h = by (leb n most) refl h
  where
    by : (b : Bool) → leb n most ≡ b → number r ≡ cond b 0 COUNT_TOO_LARGE → (most < n) × (COUNT_TOO_LARGE ≡ number r)
    by true e g = absurd (number_some r g)
    by false e g = (leb-false n most e, sym g)

-- ---- a size that is printed, with its sign in 64 bits
pub plus_is : (n : ℕ) → n ≤ most → to_z w64 n ≡ pos n
plus_is n h = to_z_pos w64 (omega arith)

negated : (n : ℕ) → pos 0 -ℤ pos n ≡ signed true n
unfolding signed
negated zero = refl
negated (suc k) = +ℤ_idl (negsuc k)

minus_signed : (n : ℕ) → n ≤ most → pos 0 -ℤ to_z w64 n ≡ signed true n
minus_signed n h = ap (λ (z : ℤ). pos 0 -ℤ z) (plus_is n h) ∙ negated n

signed_fits : (s : Bool) (n : ℕ) → n ≤ most → SFits w64 (signed s n)
unfolding signed
signed_fits true zero h = omega arith
signed_fits true (suc k) h = omega arith
signed_fits false n h = omega arith

pub minus_fits : (n : ℕ) → n ≤ most → SFits w64 (pos 0 -ℤ to_z w64 n)
minus_fits n h = subst (λ (z : ℤ). SFits w64 z) (sym (minus_signed n h)) (signed_fits true n h)

pub minus_is : (n : ℕ) → n ≤ most → to_z w64 (of_z w64 (pos 0 -ℤ to_z w64 n)) ≡ signed true n
minus_is n h = to_z-of_z (minus_fits n h) ∙ minus_signed n h
