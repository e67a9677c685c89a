-- A number from 0 to 1 is a cosine: its arccosine is finite. Assumes nothing.
use Rattle.std.specs.Prelude.{◌≡◌, refl, Bool, true, cond, ℕ, suc, ◌*◌, ◌/◌, ◌%◌, ◌^◌, ◌≤◌, ◌<◌, leb, ltb, eqb, negsuc, Float}
use Rattle.std.proofs.Common.{sym, ltb→lt, lt→ltb, lit≤}
use Rattle.std.proofs.Math.Path.{subst}
use Rattle.std.proofs.Math.Bool.{false}
use native.Mathlib.Omega.{arith}
use Rattle.std.proofs.Math.Dec.{T}
use Rattle.std.specs.Float.{nan, inf, fin}
use Rattle.std.specs.Float.Ieee.{binary64, up, down, add, sub, mul, div, neg, le, lt, eq, fits, of_bits}
use Rattle.std.specs.Float.Ieee.Fits.{mul-fits}
use Rattle.std.specs.Float.Ieee.Bits.{of_bits-to_bits}
use borrow.Author.Tests.{leb-true, leb-false, ltb-true, ltb-false, eq-eqb}
use Rattle.checked.specs.Checked.{is_finite}
use Rattle.checked.specs.Numbers.{literal, zero, half, one, two}
use Rattle.checked.specs.Patterns.{bits, high_word, upper}
use Rattle.order.specs.Order.{le_trans_of, lt_not_le}
use Rattle.float_bits.specs.FloatBits.{fabs, sign, size, ◌+ᶠ◌, ◌-ᶠ◌, ◌*ᶠ◌, ◌/ᶠ◌}
use Rattle.float_bits.specs.Laws.{fabs_bits}
use Rattle.float_bits.specs.Signs.{above_sign}
use Rattle.libm.specs.Acos.{PIO2_HI, PIO2_LO, PS0, PS1, PS2, PS3, PS4, PS5, QS1, QS2, QS3, QS4, tiny, sqrt, ratio, at_one, acos_far, acos_near, acos_above, acos_below}
use Rattle.libm.specs.Roots.{acos}
use Rattle.float_bounds.specs.Parts.{nought}
use Rattle.float_bounds.proofs.Parts.{add_le}
use Rattle.float_bounds.specs.Intervals.{In, Upto, plain, positive}
use Rattle.float_bounds.proofs.Intervals.{upto_in, in_upto, upto_wider, upto_add, upto_mul, upto_div, in_add, in_sub, in_scaled, in_finite, le_fabs, finite_number, plain_finite, plain_fabs}
use Rattle.float_bounds.proofs.Comparing.{lt_le_trans, above_size}
use Rattle.float_bounds.specs.Own.{unit}
use Rattle.float_bounds.proofs.Own.{mul_comm_of}
use Rattle.float_bounds.specs.Powers.{pow}
use Rattle.float_bounds.proofs.Powers.{pow_wider, pow_mul, pow_add_of, pow_sub, pow_div, pow_finite}
use Rattle.float_bounds.proofs.HighWords.{below_word, above_word, pattern_le}
use Rattle.float_bounds.proofs.Neighbours.{size_top}
use Rattle.float_bounds.specs.SquareRoots.{least_root}
use Rattle.float_bounds.proofs.SquareRoots.{pow_sqrt, sqrt_positive, sqrt_fits}

-- ---- the ratio of the two polynomials, at a z of magnitude at most 1/4

abbrev quarter : Float
quarter = fin false 1 (negsuc 1)

-- c + z * q, of a coefficient at most 1/2
term : (c z q : Float) → Upto (fin false 1 (negsuc 0)) c → Upto quarter z → Upto unit q → Upto unit (c +ᶠ z *ᶠ q)
unfolding add mul le lt eq
term c z q C Z Q = upto_wider (add binary64 (fin false 1 (negsuc 0)) quarter) unit (c +ᶠ z *ᶠ q) tt (upto_add binary64 (fin false 1 (negsuc 0)) quarter tt tt c (z *ᶠ q) C (upto_mul binary64 quarter unit tt tt z q Z Q))

-- the bounds of the divisor's sums, from the last: 1, 5/2, 25/8, 25/32
step : (a b c q : Float) (z : Float) → T (plain a) → T (plain b) → T (plain (mul binary64 quarter b)) → Upto a c → Upto quarter z → Upto b q → Upto (add binary64 a (mul binary64 quarter b)) (c +ᶠ z *ᶠ q)
step a b c q z A B P C Z Q = upto_add binary64 a (mul binary64 quarter b) A P c (z *ᶠ q) C (upto_mul binary64 quarter b tt B z q Z Q)

module _ (z : Float) (Z : Upto quarter z) where
  abbrev p_of : Float
  p_of = z *ᶠ (PS0 +ᶠ z *ᶠ (PS1 +ᶠ z *ᶠ (PS2 +ᶠ z *ᶠ (PS3 +ᶠ z *ᶠ (PS4 +ᶠ z *ᶠ PS5)))))

  abbrev q₃ : Float
  q₃ = QS3 +ᶠ z *ᶠ QS4

  abbrev q₂ : Float
  q₂ = QS2 +ᶠ z *ᶠ q₃

  abbrev q₁ : Float
  q₁ = QS1 +ᶠ z *ᶠ q₂

  dividend : Upto quarter p_of
  unfolding mul le lt eq fabs of_bits
  dividend =
      upto_wider (mul binary64 quarter unit) quarter p_of tt
      (upto_mul binary64 quarter unit tt tt z (PS0 +ᶠ z *ᶠ (PS1 +ᶠ z *ᶠ (PS2 +ᶠ z *ᶠ (PS3 +ᶠ z *ᶠ (PS4 +ᶠ z *ᶠ PS5))))) Z
      (term PS0 z _ tt Z (term PS1 z _ tt Z (term PS2 z _ tt Z (term PS3 z _ tt Z (term PS4 z PS5 tt Z tt))))))

  third : Upto unit q₃
  unfolding add mul le lt eq fabs of_bits
  third = upto_wider (add binary64 (fin false 3 (negsuc 1)) (mul binary64 quarter quarter)) unit q₃ tt (step (fin false 3 (negsuc 1)) quarter QS3 QS4 z tt tt tt tt Z tt)

  second : Upto (fin false 5 (negsuc 0)) q₂
  unfolding add mul le lt eq fabs of_bits
  second = upto_wider (add binary64 (fin false 9 (negsuc 1)) (mul binary64 quarter unit)) (fin false 5 (negsuc 0)) q₂ tt (step (fin false 9 (negsuc 1)) unit QS2 q₃ z tt tt tt tt Z third)

  first : Upto (fin false 25 (negsuc 2)) q₁
  unfolding add mul le lt eq fabs of_bits
  first = upto_wider (add binary64 (fin false 5 (negsuc 0)) (mul binary64 quarter (fin false 5 (negsuc 0)))) (fin false 25 (negsuc 2)) q₁ tt (step (fin false 5 (negsuc 0)) (fin false 5 (negsuc 0)) QS1 q₂ z tt tt tt tt Z second)

  divisor : In (fin false 7 (negsuc 4)) (fin false 57 (negsuc 4)) (one +ᶠ z *ᶠ q₁)
  unfolding add mul neg le lt eq of_bits is_finite
  divisor =
      in_add one one (neg (fin false 25 (negsuc 4))) (fin false 25 (negsuc 4)) tt tt tt tt one (z *ᶠ q₁) (tt, tt)
      (upto_in (fin false 25 (negsuc 4)) (z *ᶠ q₁) (upto_mul binary64 quarter (fin false 25 (negsuc 2)) tt tt z q₁ Z first))

  pub ratio_upto : Upto (pow 1) (ratio z)
  unfolding div le lt eq is_finite
  ratio_upto =
      let q = one +ᶠ z *ᶠ q₁ in
      let F = in_finite (fin false 7 (negsuc 4)) (fin false 57 (negsuc 4)) q tt tt divisor in
      upto_wider (div binary64 quarter (fin false 7 (negsuc 4))) (pow 1) (ratio z) tt
      (upto_div binary64 quarter (fin false 7 (negsuc 4)) tt tt tt p_of q F dividend (le_trans_of (fin false 7 (negsuc 4)) q (fabs q) divisor.0 (le_fabs q (finite_number q F))))

-- ---- sums and differences of numbers with bounds of their own

module _ (i j k : ℕ) (x y : Float) (I : i ≤ k) (J : j ≤ k) (K : suc k ≤ 1023) (p : Upto (pow i) x) (q : Upto (pow j) y) where
  plus : Upto (pow (suc k)) (x +ᶠ y)
  plus = pow_add_of k x y K (pow_wider i k x I p) (pow_wider j k y J q)

  less : Upto (pow (suc k)) (x -ᶠ y)
  less = pow_sub k x y K (pow_wider i k x I p) (pow_wider j k y J q)

-- ---- below 1/2

near_finite : (ix : ℕ) (x : Float) → Upto (fin false 1 (negsuc 0)) x → T (is_finite (acos_near ix x))
unfolding acos_near
near_finite ix x X = either (leb ix 0x3c600000)
  where
    by : Float
    by = x *ᶠ ratio (x *ᶠ x)

    square : Upto quarter (x *ᶠ x)
    square = unfold mul in upto_mul binary64 (fin false 1 (negsuc 0)) (fin false 1 (negsuc 0)) tt tt x x X X

    whole : Upto (pow 0) x
    whole = upto_wider (fin false 1 (negsuc 0)) (pow 0) x (unfold le lt eq in tt) X

    rest : Upto (pow 4) (PIO2_HI -ᶠ (x -ᶠ (PIO2_LO -ᶠ x *ᶠ ratio (x *ᶠ x))))
    rest =
        less 1 3 3 PIO2_HI (x -ᶠ (PIO2_LO -ᶠ x *ᶠ ratio (x *ᶠ x))) (omega arith) (omega arith) (omega arith) (unfold le lt eq fabs of_bits in tt)
        (less 0 2 2 x (PIO2_LO -ᶠ x *ᶠ ratio (x *ᶠ x)) (omega arith) (omega arith) (omega arith) whole
        (less 0 1 1 PIO2_LO (x *ᶠ ratio (x *ᶠ x)) (omega arith) (omega arith) (omega arith) (unfold le lt eq fabs of_bits in tt)
        (pow_mul 0 1 x (ratio (x *ᶠ x)) (omega arith) whole (ratio_upto (x *ᶠ x) square))))

    either : (b : Bool) → T (is_finite (cond b (PIO2_HI +ᶠ tiny) (PIO2_HI -ᶠ (x -ᶠ (PIO2_LO -ᶠ x *ᶠ ratio (x *ᶠ x))))))
    either true = unfold add of_bits is_finite in tt
    either false = pow_finite 4 (PIO2_HI -ᶠ (x -ᶠ (PIO2_LO -ᶠ x *ᶠ ratio (x *ᶠ x)))) rest

-- ---- from 1/2 up, below 1

-- a number with its low word cleared is no larger
upper_in : (s : Float) → T (plain s) → T (fits binary64 s) → sign s ≡ 0 → In nought s (upper s)
upper_in s P F z =
    let b = bits s in
    let own : literal b ≡ s = of_bits-to_bits binary64 s F in
    let top : b < 2047 * 2 ^ 52 = below b (size_top s (plain_finite s P) F) z in
    (unfold of_bits in pattern_le 0 (b / 2 ^ 32 * 2 ^ 32) (omega arith) (cleared b top), subst (λ (v : Float). T (le (upper s) v)) own (pattern_le (b / 2 ^ 32 * 2 ^ 32) b (omega arith) top))
  where
    below : (b : ℕ) → b % 2 ^ 63 < 2047 * 2 ^ 52 → b / 2 ^ 63 ≡ 0 → b < 2047 * 2 ^ 52
    below b h z = omega arith

    cleared : (b : ℕ) → b < 2047 * 2 ^ 52 → b / 2 ^ 32 * 2 ^ 32 < 2047 * 2 ^ 52
    cleared b h = omega arith

abbrev last : Float
last = literal 0x3fef_ffff_ffff_ffff

-- what is above zero has no minus sign
plain_above : (z : Float) → T (is_finite z) → T (lt nought z) → T (plain z) × T (positive z)
unfolding lt is_finite
plain_above nan Z h = absurd Z
plain_above (inf s) Z h = absurd Z
plain_above (fin true m e) Z h = absurd h
plain_above (fin false m e) Z h = (tt, lt→ltb 0 (m * up e) (some (m * up e) (down e) (ltb→lt (0 * down e) (m * up e * 1) h)))
  where
    some : (a d : ℕ) → 0 * d < a * 1 → 0 < a
    some a d h = omega arith

least_root_above : T (lt nought least_root)
unfolding lt
least_root_above = tt

least_sum : T (le least_root (add binary64 least_root nought))
unfolding add le lt eq
least_sum = tt

module _ (x : Float) (X : In half last x) where
  abbrev d : Float
  d = one -ᶠ x

  abbrev z : Float
  z = d *ᶠ half

  d_in : In (fin false 1 (negsuc 52)) (fin false 1 (negsuc 0)) d
  unfolding sub neg le lt eq of_bits is_finite
  d_in = in_sub one one half last tt tt tt tt one x (tt, tt) X

  d_finite : T (is_finite d)
  unfolding is_finite
  d_finite = in_finite (fin false 1 (negsuc 52)) (fin false 1 (negsuc 0)) d tt tt d_in

  z_in : In (fin false 1 (negsuc 53)) quarter z
  unfolding mul of_bits is_finite
  z_in =
      subst (In (fin false 1 (negsuc 53)) quarter) (sym (mul_comm_of binary64 d half d_finite tt))
      (in_scaled half (fin false 1 (negsuc 52)) (fin false 1 (negsuc 0)) d tt tt tt d_in)

  z_finite : T (is_finite z)
  unfolding is_finite
  z_finite = in_finite (fin false 1 (negsuc 53)) quarter z tt tt z_in

  z_plain : T (plain z) × T (positive z)
  z_plain = plain_above z z_finite (lt_le_trans nought (fin false 1 (negsuc 53)) z (unfold lt in tt) z_in.0)

  z_upto : Upto quarter z
  z_upto = subst (λ (v : Float). T (le v quarter)) (sym (plain_fabs z z_plain.0)) z_in.1

  z_fits : T (fits binary64 z)
  z_fits = mul-fits binary64 d half

  abbrev s : Float
  s = sqrt z

  s_upto : Upto (pow 1) s
  s_upto = pow_sqrt 1 0 z (omega arith) z_plain.0 z_fits (upto_wider quarter (pow 0) z (unfold le lt eq in tt) z_upto)

  s_least : T (le least_root s)
  s_least = sqrt_positive z z_plain.0 z_fits z_plain.1

  s_above : T (lt nought s)
  s_above = lt_le_trans nought least_root s least_root_above s_least

  s_finite : T (is_finite s)
  s_finite = pow_finite 1 s s_upto

  s_plain : T (plain s)
  s_plain = (plain_above s s_finite s_above).0

  abbrev df : Float
  df = upper s

  df_in : In nought s df
  df_in = upper_in s s_plain (sqrt_fits z z_fits) (above_sign s (sqrt_fits z z_fits) s_above)

  df_upto : Upto (pow 1) df
  df_upto =
      in_upto (pow 1) df (
        le_trans_of (neg (pow 1)) nought df (unfold neg le lt eq in tt) df_in.0,
        le_trans_of df s (pow 1) df_in.1 (upto_in (pow 1) s s_upto).1,
      )

  df_finite : T (is_finite df)
  df_finite = pow_finite 1 df df_upto

  sum_finite : T (is_finite (s +ᶠ df))
  sum_finite = pow_finite 2 (s +ᶠ df) (plus 1 1 1 s df (omega arith) (omega arith) (omega arith) s_upto df_upto)

  sum_least : T (le least_root (fabs (s +ᶠ df)))
  unfolding is_finite
  sum_least =
      le_trans_of least_root (s +ᶠ df) (fabs (s +ᶠ df))
      (le_trans_of least_root (add binary64 least_root nought) (s +ᶠ df) least_sum (add_le binary64 least_root s nought df tt s_finite tt df_finite s_least df_in.0))
      (le_fabs (s +ᶠ df) (finite_number (s +ᶠ df) sum_finite))

  above_finite : T (is_finite (acos_above x))
  unfolding le lt eq fabs of_bits
  above_finite =
      let c = (z -ᶠ df *ᶠ df) /ᶠ (s +ᶠ df) in
      let C : Upto (pow 540) c =
      pow_div 3 536 (z -ᶠ df *ᶠ df) (s +ᶠ df) (omega arith)
      (less 0 2 2 z (df *ᶠ df) (omega arith) (omega arith) (omega arith) (upto_wider quarter (pow 0) z tt z_upto) (pow_mul 1 1 df df (omega arith) df_upto df_upto)) sum_finite sum_least in
      let w = ratio z *ᶠ s +ᶠ c in
      let W : Upto (pow 541) w = plus 2 540 540 (ratio z *ᶠ s) c (omega arith) (omega arith) (omega arith) (pow_mul 1 1 (ratio z) s (omega arith) (ratio_upto z z_upto) s_upto) C in
      pow_finite 543 (acos_above x) (pow_mul 1 542 two (df +ᶠ w) (omega arith) tt (plus 1 541 541 df w (omega arith) (omega arith) (omega arith) df_upto W))

-- ---- at 1

one_size : (x : Float) → T (fits binary64 x) → T (is_finite x) → T (le x one) → T (le nought x) → 0x3ff00000 ≤ high_word x → size x ≡ 0x3ff0_0000_0000_0000
one_size x F X h n w = by (ltb 0x3ff0_0000_0000_0000 (size x)) refl
  where
    same : (b : ℕ) → 0x3ff00000 ≤ b / 2 ^ 32 % 2 ^ 31 → b % 2 ^ 63 ≤ 0x3ff0_0000_0000_0000 → b % 2 ^ 63 ≡ 0x3ff0_0000_0000_0000
    same b w l = omega arith

    by : (c : Bool) → ltb 0x3ff0_0000_0000_0000 (size x) ≡ c → size x ≡ 0x3ff0_0000_0000_0000
    by true e =
        absurd (lt_not_le one (literal 0x3ff0_0000_0000_0001) (unfold lt of_bits in tt)
        (le_trans_of (literal 0x3ff0_0000_0000_0001) (fabs x) one
        (subst (λ (v : Float). T (le (literal 0x3ff0_0000_0000_0001) v)) (fabs_bits x F) (pattern_le 0x3ff0_0000_0000_0001 (size x) (ltb-true 0x3ff0_0000_0000_0000 (size x) e) (size_top x X F)))
        (le_trans_of (fabs x) x one (above_size x X n) h)))
    by false e = same (bits x) w (ltb-false 0x3ff0_0000_0000_0000 (size x) e)

far_finite : (x : Float) → size x ≡ 0x3ff0_0000_0000_0000 → T (is_finite (acos_far x))
unfolding acos_far
far_finite x h = subst (λ (b : Bool). T (is_finite (cond b (at_one x) (zero /ᶠ (x -ᶠ x))))) (sym (eq-eqb (size x) 0x3ff0_0000_0000_0000 h)) (either (eqb (sign x) 0))
  where
    either : (b : Bool) → T (is_finite (cond b zero (two *ᶠ PIO2_HI +ᶠ tiny)))
    either true = unfold of_bits is_finite in tt
    either false = unfold add mul of_bits is_finite in tt

-- ---- from 0 to 1

pub acos_finite : (x : Float) → T (fits binary64 x) → In nought one x → T (is_finite (acos x))
unfolding acos
acos_finite x F h = by (leb 0x3ff00000 (high_word x)) refl (ltb (high_word x) 0x3fe00000) refl
  where
    X : T (is_finite x)
    X = in_finite nought one x (unfold is_finite in tt) (unfold is_finite of_bits in tt) h

    by : (p : Bool) → leb 0x3ff00000 (high_word x) ≡ p → (q : Bool) → ltb (high_word x) 0x3fe00000 ≡ q
        → T (is_finite (cond p (acos_far x) (cond q (acos_near (high_word x) x) (cond (eqb (sign x) 0) (acos_above x) (acos_below x)))))
    by true a q b = far_finite x (one_size x F X h.1 h.0 (leb-true 0x3ff00000 (high_word x) a))
    by false a true b = near_finite (high_word x) x (unfold of_bits in below_word x 0x3fe00000 F (ltb-true (high_word x) 0x3fe00000 b) (omega arith))
    by false a false b =
        subst (λ (c : Bool). T (is_finite (cond c (acos_above x) (acos_below x)))) (sym (eq-eqb (sign x) 0 (above_sign x F positive_x))) (above_finite x within_half)
      where
        words : high_word x < 0x3ff00000
        words = leb-false 0x3ff00000 (high_word x) a

        under : (b : ℕ) → b / 2 ^ 32 % 2 ^ 31 < 0x3ff00000 → b % 2 ^ 63 ≤ 0x3fef_ffff_ffff_ffff
        under b w = omega arith

        low : T (le half (fabs x))
        low = unfold of_bits in above_word x 0x3fe00000 F (ltb-false (high_word x) 0x3fe00000 b) (omega (arith, words))

        within_half : In half last x
        within_half = (
          le_trans_of half (fabs x) x low (above_size x X h.0),
          le_trans_of x (fabs x) last (le_fabs x (finite_number x X)) (subst (λ (v : Float). T (le v last)) (fabs_bits x F) (pattern_le (size x) 0x3fef_ffff_ffff_ffff (under (bits x) words) (lit≤ tt))),
        )

        positive_x : T (lt nought x)
        positive_x = lt_le_trans nought half x (unfold lt of_bits in tt) within_half.0
