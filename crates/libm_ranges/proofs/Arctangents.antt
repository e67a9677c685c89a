-- The arctangent of a number is at most 3 in magnitude, and not below zero for a number with no
-- minus sign. Assumes nothing.
use Rattle.std.specs.Prelude.{◌≡◌, Bool, cond, ℕ, ◌*◌, ◌^◌, ◌≤◌, ◌<◌, leb, eqb, pos, negsuc, Float}
use Rattle.std.proofs.Math.Path.{refl, subst}
use Rattle.std.proofs.Common.{sym, ap, ◌∙◌, arith, ltb-true, ltb-false, leb-false}
use Rattle.std.proofs.Math.Bool.{true, false}
use Rattle.std.proofs.Math.Dec.{T, ltb}
use Rattle.std.specs.Float.{nan, inf, fin}
use Rattle.std.specs.Float.Ieee.{binary64, add, sub, mul, div, neg, le, lt, eq, fits, is_nan, of_bits}
use Rattle.checked.specs.Checked.{is_finite}
use Rattle.checked.specs.Patterns.{high_word}
use Rattle.order.specs.Order.{le_trans_of, le_refl_of}
use Rattle.checked.specs.Numbers.{literal, one, two, three_halves}
use Rattle.float_bits.specs.FloatBits.{fabs, sign, signed, ◌+ᶠ◌, ◌-ᶠ◌, ◌*ᶠ◌, ◌/ᶠ◌}
use Rattle.libm.specs.declared.atan.Reduced.{Reduced}
use Rattle.libm.specs.Atan.{ATANHI3, AT0, AT1, AT2, AT3, AT4, AT5, AT6, AT7, AT8, AT9, AT10, atan, atan_huge, atan_small, at_half, at_one, at_three_halves, at_infinity, reduced, series, folded}
use Rattle.float_bits.specs.Laws.{signed_fabs}
use Rattle.float_bounds.specs.Parts.{nought}
use Rattle.float_bounds.proofs.Parts.{le_back}
use Rattle.float_bounds.specs.Intervals.{In, Upto, plain, positive}
use Rattle.float_bounds.proofs.Intervals.{upto_in, in_upto, upto_wider, upto_add, upto_sub, upto_mul, upto_neg, upto_div, in_sub, in_add, in_wider, in_scaled, in_finite, le_fabs, finite_number, upto_finite, plain_finite, plain_fabs, neg_finite}
use Rattle.float_bounds.specs.Own.{unit}
use Rattle.float_bounds.proofs.Own.{shrunk, sub_above}
use Rattle.float_bounds.proofs.HighWords.{below_word, above_word}
use Rattle.libm_ranges.specs.Arctangents.{three, Turned}

-- 1/2, 1/4 and 1/16
abbrev half : Float
half = fin false 1 (negsuc 0)

abbrev quarter : Float
quarter = fin false 1 (negsuc 1)

abbrev sixteenth : Float
sixteenth = fin false 1 (negsuc 3)

-- ---- the series

-- c + w * q, for a coefficient c
term : (c w q : Float) → Upto half c → Upto sixteenth w → Upto unit q → Upto unit (c +ᶠ w *ᶠ q)
unfolding add mul le lt eq
term c w q C W Q = upto_wider (add binary64 half sixteenth) unit (c +ᶠ w *ᶠ q) tt (upto_add binary64 half sixteenth tt tt c (w *ᶠ q) C (upto_mul binary64 sixteenth unit tt tt w q W Q))

-- the two sums of the series, by the square w of the square of x
even : Float → Float
even w = AT0 +ᶠ w *ᶠ (AT2 +ᶠ w *ᶠ (AT4 +ᶠ w *ᶠ (AT6 +ᶠ w *ᶠ (AT8 +ᶠ w *ᶠ AT10))))

odd : Float → Float
odd w = AT1 +ᶠ w *ᶠ (AT3 +ᶠ w *ᶠ (AT5 +ᶠ w *ᶠ (AT7 +ᶠ w *ᶠ AT9)))

module _ (w : Float) (W : Upto sixteenth w) where
  even_upto : Upto unit (even w)
  unfolding even le lt eq fabs of_bits
  even_upto =
      term AT0 w _ tt W (term AT2 w _ tt W (term AT4 w _ tt W (term AT6 w _ tt W (term AT8 w AT10 tt W tt))))

  odd_upto : Upto unit (odd w)
  unfolding odd le lt eq fabs of_bits
  odd_upto = term AT1 w _ tt W (term AT3 w _ tt W (term AT5 w _ tt W (term AT7 w AT9 tt W tt)))

-- what the series multiplies x by
factor : Float → Float
factor x = x *ᶠ x *ᶠ even (x *ᶠ x *ᶠ (x *ᶠ x)) +ᶠ x *ᶠ x *ᶠ (x *ᶠ x) *ᶠ odd (x *ᶠ x *ᶠ (x *ᶠ x))

series_is : (x : Float) → series x ≡ x *ᶠ factor x
unfolding factor even odd
series_is x = refl

module _ (x : Float) (X : Upto half x) where
  z : Upto quarter (x *ᶠ x)
  unfolding mul
  z = upto_mul binary64 half half tt tt x x X X

  w : Upto sixteenth (x *ᶠ x *ᶠ (x *ᶠ x))
  unfolding mul
  w = upto_mul binary64 quarter quarter tt tt (x *ᶠ x) (x *ᶠ x) z z

  factor_upto : Upto half (factor x)
  unfolding factor mul add le lt eq
  factor_upto =
      upto_wider (add binary64 quarter sixteenth) half (factor x) tt
      (upto_add binary64 quarter sixteenth tt tt (x *ᶠ x *ᶠ even (x *ᶠ x *ᶠ (x *ᶠ x))) (x *ᶠ x *ᶠ (x *ᶠ x) *ᶠ odd (x *ᶠ x *ᶠ (x *ᶠ x)))
      (upto_mul binary64 quarter unit tt tt (x *ᶠ x) (even (x *ᶠ x *ᶠ (x *ᶠ x))) z (even_upto (x *ᶠ x *ᶠ (x *ᶠ x)) w))
      (upto_mul binary64 sixteenth unit tt tt (x *ᶠ x *ᶠ (x *ᶠ x)) (odd (x *ᶠ x *ᶠ (x *ᶠ x))) w (odd_upto (x *ᶠ x *ᶠ (x *ᶠ x)) w)))

-- half of x's bound at most
pub series_upto : (b x : Float) → T (plain b) → T (le b half) → Upto b x → Upto (mul binary64 b half) (series x)
series_upto b x B H X = subst (λ (v : Float). Upto (mul binary64 b half) v) (sym (series_is x)) (upto_mul binary64 b half B tt x (factor x) X (factor_upto x (upto_wider b half x H X)))

-- ---- from 7/16 up

-- where the new x is at most b in magnitude, c bounds b / 2 + low + b, and high - c and high + c
-- lie in [0, 3]
fold_range : (b c : Float) (r : Reduced) → T (plain b) → T (le b half) → T (plain (mul binary64 b half)) → T (plain r.low) → T (plain (add binary64 (mul binary64 b half) r.low)) → T (plain r.high)
    → T (plain c) → T (le (add binary64 (add binary64 (mul binary64 b half) r.low) b) c) → T (le nought (sub binary64 r.high c)) → T (le (sub binary64 r.high (neg c)) three) → Upto b r.x → In nought three (folded r)
fold_range b c r B H S L SL N C most lo hi X =
    let rest = series r.x -ᶠ r.low -ᶠ r.x in
    let sl = upto_sub binary64 (mul binary64 b half) r.low S L (series r.x) r.low (series_upto b r.x B H X) (own r.low L) in
    let R : Upto c rest = upto_wider (add binary64 (add binary64 (mul binary64 b half) r.low) b) c rest most (upto_sub binary64 (add binary64 (mul binary64 b half) r.low) b SL B (series r.x -ᶠ r.low) r.x sl X) in
    let F = plain_finite r.high N in
    let G = plain_finite c C in
    in_wider (sub binary64 r.high c) (sub binary64 r.high (neg c)) nought three (folded r) lo hi
    (in_sub r.high r.high (neg c) c F F (neg_finite c G) G r.high rest (itself r.high N) (upto_in c rest R))
  where
    itself : (x : Float) → T (plain x) → In x x x
    itself x X = let e = le_refl_of x (finite_number x (plain_finite x X)) in (e, e)

    own : (x : Float) → T (plain x) → Upto x x
    own x X = subst (λ (v : Float). T (le v x)) (sym (plain_fabs x X)) (itself x X).0

-- a quotient of numbers from intervals, the divisor's above zero
ratio : (a b c nl nh dl dh n d : Float) → T (plain a) → T (plain b) → T (positive b) → T (is_finite dl) → T (is_finite dh) → T (le (neg a) nl) → T (le nh a) → T (le b dl) → T (le (div binary64 a b) c) → In nl nh n → In dl dh d → Upto c (n /ᶠ d)
ratio a b c nl nh dl dh n d A B P L H p q r s N D =
    let F = in_finite dl dh d L H D in
    upto_wider (div binary64 a b) c (n /ᶠ d) s
    (upto_div binary64 a b A B P n d F (in_upto a n (in_wider nl nh (neg a) a n p q N)) (le_trans_of b dl (fabs d) r (le_trans_of dl d (fabs d) D.0 (le_fabs d (finite_number d F)))))

-- 7/16, 11/16, 19/16, 39/16 and 2^66
abbrev e₀ : Float
e₀ = fin false 7 (negsuc 3)

abbrev e₁ : Float
e₁ = fin false 11 (negsuc 3)

abbrev e₂ : Float
e₂ = fin false 19 (negsuc 3)

abbrev e₃ : Float
e₃ = fin false 39 (negsuc 3)

abbrev e₄ : Float
e₄ = fin false 1 (pos 66)

module _ (x : Float) where
  at_half_lem : In e₀ e₁ x → In nought three (folded (at_half x))
  unfolding add sub mul div neg le lt eq of_bits is_finite
  at_half_lem h =
      fold_range quarter (fin false 7 (negsuc 3)) (at_half x) tt tt tt tt tt tt tt tt tt tt
      (ratio (fin false 3 (negsuc 2)) two quarter (two *ᶠ e₀ -ᶠ one) (two *ᶠ e₁ -ᶠ one) (two +ᶠ e₀) (two +ᶠ e₁) (two *ᶠ x -ᶠ one) (two +ᶠ x) tt tt tt tt tt tt tt tt tt
      (in_sub (two *ᶠ e₀) (two *ᶠ e₁) one one tt tt tt tt (two *ᶠ x) one (in_scaled two e₀ e₁ x tt tt tt h) (tt, tt))
      (in_add two two e₀ e₁ tt tt tt tt two x (tt, tt) h))

  at_one_lem : In e₁ e₂ x → In nought three (folded (at_one x))
  unfolding add sub mul div neg le lt eq of_bits is_finite
  at_one_lem h =
      fold_range half (fin false 49 (negsuc 5)) (at_one x) tt tt tt tt tt tt tt tt tt tt
      (ratio half one half (e₁ -ᶠ one) (e₂ -ᶠ one) (e₁ +ᶠ one) (e₂ +ᶠ one) (x -ᶠ one) (x +ᶠ one) tt tt tt tt tt tt tt tt tt (in_sub e₁ e₂ one one tt tt tt tt x one h (tt, tt)) (in_add e₁ e₂ one one tt tt tt tt x one h (tt, tt)))

  at_three_halves_lem : In e₂ e₃ x → In nought three (folded (at_three_halves x))
  unfolding add sub mul div neg le lt eq of_bits is_finite
  at_three_halves_lem h =
      fold_range half (fin false 49 (negsuc 5)) (at_three_halves x) tt tt tt tt tt tt tt tt tt tt
      (ratio one two half (e₂ -ᶠ three_halves) (e₃ -ᶠ three_halves) (one +ᶠ three_halves *ᶠ e₂) (one +ᶠ three_halves *ᶠ e₃) (x -ᶠ three_halves) (one +ᶠ three_halves *ᶠ x) tt tt tt tt tt tt tt tt tt
      (in_sub e₂ e₃ three_halves three_halves tt tt tt tt x three_halves h (tt, tt))
      (in_add one one (three_halves *ᶠ e₂) (three_halves *ᶠ e₃) tt tt tt tt one (three_halves *ᶠ x) (tt, tt) (in_scaled three_halves e₂ e₃ x tt tt tt h)))

  at_infinity_lem : In e₃ e₄ x → In nought three (folded (at_infinity x))
  unfolding add sub mul div neg le lt eq of_bits is_finite
  at_infinity_lem h =
      fold_range half (fin false 49 (negsuc 5)) (at_infinity x) tt tt tt tt tt tt tt tt tt tt
      (ratio one two half (neg one) (neg one) e₃ e₄ (neg one) x tt tt tt tt tt tt tt tt tt (tt, tt) h)

-- ---- by the high word

module _ (x : Float) (F : T (fits binary64 x)) where
  between : (j k : ℕ) → j ≤ high_word x → high_word x < k → k < 0x7ff00000 → In (literal (j * 2 ^ 32)) (literal (k * 2 ^ 32)) (fabs x)
  between j k h l K = (above_word x j F h (under (high_word x) k l K), below_word x k F l K)
    where
      under : (w k : ℕ) → w < k → k < 0x7ff00000 → w < 0x7ff00000
      under w k h l = omega arith

  reduced_range : 0x3fdc0000 ≤ high_word x → high_word x < 0x44100000 → In nought three (folded (reduced (high_word x) (fabs x)))
  unfolding reduced of_bits
  reduced_range lo hi = by (ltb (high_word x) 0x3ff30000) refl (ltb (high_word x) 0x3fe60000) refl (ltb (high_word x) 0x40038000) refl
    where
      by : (p : Bool) → ltb (high_word x) 0x3ff30000 ≡ p → (q : Bool) → ltb (high_word x) 0x3fe60000 ≡ q → (r : Bool) → ltb (high_word x) 0x40038000 ≡ r
          → In nought three (folded (cond p (cond q (at_half (fabs x)) (at_one (fabs x))) (cond r (at_three_halves (fabs x)) (at_infinity (fabs x)))))
      by true a true b r c = at_half_lem (fabs x) (between 0x3fdc0000 0x3fe60000 lo (ltb-true (high_word x) 0x3fe60000 b) (omega arith))
      by true a false b r c = at_one_lem (fabs x) (between 0x3fe60000 0x3ff30000 (ltb-false (high_word x) 0x3fe60000 b) (ltb-true (high_word x) 0x3ff30000 a) (omega arith))
      by false a q b true c = at_three_halves_lem (fabs x) (between 0x3ff30000 0x40038000 (ltb-false (high_word x) 0x3ff30000 a) (ltb-true (high_word x) 0x40038000 c) (omega arith))
      by false a q b false c = at_infinity_lem (fabs x) (between 0x40038000 0x44100000 (ltb-false (high_word x) 0x40038000 c) hi (omega arith))

signed_turned : (x z : Float) → T (fits binary64 x) → In nought three z → Turned x (signed (sign x) z)
unfolding signed
signed_turned x z F h = (either (eqb (sign x) 0), λ e. subst (λ (v : Float). T (le nought v)) (sym (signed_fabs x F z) ∙ ap (λ (v : Float). signed (sign v) z) e) h.0)
  where
    up : Upto three z
    up = in_upto three z (le_trans_of (neg three) nought z (unfold neg le lt eq in tt) h.0, h.1)

    either : (b : Bool) → Upto three (cond b z (neg z))
    either true = up
    either false = upto_neg three z up

huge_turned : (x : Float) → T (fits binary64 x) → is_nan x ≡ false → Turned x (atan_huge x)
unfolding add le lt eq of_bits
huge_turned x F N = subst (λ (b : Bool). Turned x (cond b x (signed (sign x) (ATANHI3 +ᶠ literal 0x03800000)))) (sym N) (signed_turned x (ATANHI3 +ᶠ literal 0x03800000) F (tt, tt))

fabs_above : (x : Float) → is_nan x ≡ false → T (le nought (fabs x))
unfolding is_nan le lt eq fabs is_finite
fabs_above nan h = absurd (subst T h tt)
fabs_above (inf s) h = tt
fabs_above (fin s m e) h = le_back nought (fin false m e) tt tt (omega arith)

small_turned : (x : Float) → T (fits binary64 x) → is_nan x ≡ false → high_word x < 0x3fdc0000 → Turned x (atan_small (high_word x) x)
unfolding of_bits
small_turned x F N h = either (ltb (high_word x) 0x3e400000)
  where
    X : Upto e₀ x
    X = below_word x 0x3fdc0000 F h (omega arith)

    X' : Upto half x
    X' = upto_wider e₀ half x (unfold le lt eq in tt) X

    finite : T (is_finite x)
    finite = upto_finite half x tt X'

    S : Upto quarter (series x)
    S = unfold mul in series_upto half x tt (unfold le lt eq in tt) X'

    under : fabs x ≡ x → T (le (series x) x)
    under e = subst (λ (v : Float). T (le (series x) v)) e (subst (λ (v : Float). T (le v (fabs x))) (sym (series_is x)) (upto_in (fabs x) (x *ᶠ factor x) (shrunk x (factor x) finite F (upto_wider half unit (factor x) (unfold le lt eq in tt) (factor_upto x X')))).1)

    either : (b : Bool) → Turned x (cond b x (x -ᶠ series x))
    either true = (upto_wider half three x (unfold le lt eq in tt) X', λ e. subst (λ (v : Float). T (le nought v)) e (fabs_above x N))
    either false = (upto_wider (add binary64 half quarter) three (x -ᶠ series x) (unfold add le lt eq in tt) (upto_sub binary64 half quarter tt tt x (series x) X' S), λ e. sub_above binary64 x (series x) finite (upto_finite quarter (series x) tt S) (under e))

pub atan_turned : (x : Float) → T (fits binary64 x) → is_nan x ≡ false → Turned x (atan x)
unfolding atan
atan_turned x F N = by (leb 0x44100000 (high_word x)) refl (ltb (high_word x) 0x3fdc0000) refl
  where
    by : (p : Bool) → leb 0x44100000 (high_word x) ≡ p → (q : Bool) → ltb (high_word x) 0x3fdc0000 ≡ q → Turned x (cond p (atan_huge x) (cond q (atan_small (high_word x) x) (signed (sign x) (folded (reduced (high_word x) (fabs x))))))
    by true a q b = huge_turned x F N
    by false a true b = small_turned x F N (ltb-true (high_word x) 0x3fdc0000 b)
    by false a false b = signed_turned x (folded (reduced (high_word x) (fabs x))) F (reduced_range x F (ltb-false (high_word x) 0x3fdc0000 b) (leb-false 0x44100000 (high_word x) a))
