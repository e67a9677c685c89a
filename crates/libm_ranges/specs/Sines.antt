-- The sine and the cosine of an angle that is due are finite: at most 2 ^ 366 in magnitude, which
-- is far from sharp. Assumes nothing.
use Rattle.std.specs.Prelude.{Bool, cond, ℕ, suc, ◌+◌, ◌-◌, ◌/◌, ◌%◌, ◌^◌, ◌≤◌, T, leb, ltb, eqb, ℤ, pos, negsuc, Float}
use Rattle.std.proofs.Math.Bool.{true, false}
use Rattle.std.proofs.Common.{arith}
use Rattle.std.specs.Float.{fin}
use Rattle.std.specs.Float.Ieee.{binary64, sub, mul, neg, le, lt, eq, of_bits}
use Rattle.checked.specs.Checked.{is_finite, within}
use Rattle.checked.specs.Patterns.{high_word}
use Rattle.checked.specs.Numbers.{zero, one, half, two, three, four}
use Rattle.float_bits.specs.FloatBits.{fabs, sign, exponent, choose, ◌+ᶠ◌, ◌-ᶠ◌, ◌*ᶠ◌}
use Rattle.libm.specs.declared.rem_pio2.Rest.{Rest}
use Rattle.libm.specs.declared.sincos.Sines.{Sines}
use Rattle.libm.specs.KTrig.{S1, S2, S3, S4, S5, S6, C1, C2, C3, C4, C5, C6, sine_series, k_sin0, k_sin, k_cos}
use Rattle.libm.specs.RemPio2.{TO_INT, PIO2_1, PIO2_1T, PIO2_2, PIO2_2T, PIO2_3, PIO2_3T, quarter, parted, tmp, f_n, turns, third_round, second_round, medium, taken_off, added, one_round, to_five, to_seven, from_seven, to_nine, rem_pio2}
use Rattle.libm.specs.RemPio2Laws.{tmp_range}
use Rattle.libm.specs.Sincos.{turned_sines, sines}
use Rattle.float_bounds.specs.Intervals.{Upto}
use Rattle.float_bounds.proofs.Intervals.{in_upto, in_sub, upto_mul}
use Rattle.float_bounds.specs.Powers.{pow}
use Rattle.float_bounds.proofs.Powers.{pow_wider, pow_mul, pow_add_of, pow_sub, pow_neg, within_pow}

-- ---- sums and differences of numbers with bounds of their own

module _ (i j k : ℕ) (x y : Float) (I : i ≤ k) (J : j ≤ k) (K : suc k ≤ 1023) (p : Upto (pow i) x) (q : Upto (pow j) y) where
  plus : Upto (pow (suc k)) (x +ᶠ y)
  plus = pow_add_of k x y K (pow_wider i k x I p) (pow_wider j k y J q)

  less : Upto (pow (suc k)) (x -ᶠ y)
  less = pow_sub k x y K (pow_wider i k x I p) (pow_wider j k y J q)

times : (i j : ℕ) (x y : Float) → i + j ≤ 1023 → Upto (pow i) x → Upto (pow j) y → Upto (pow (i + j)) (x *ᶠ y)
times i j x y h p q = pow_mul i j x y h p q

-- ---- the coefficients are at most 1

abbrev Small : Float → Type 0
Small c = Upto (pow 0) c

-- a + z * b, for a coefficient a
horner : (i j : ℕ) (a z b : Float) → i + j ≤ 1022 → Small a → Upto (pow i) z → Upto (pow j) b → Upto (pow (suc (i + j))) (a +ᶠ z *ᶠ b)
horner i j a z b h A Z B = plus 0 (i + j) (i + j) a (z *ᶠ b) (omega arith) (omega arith) (omega arith) A (times i j z b (omega arith) Z B)

-- ---- k_sin and k_cos

-- c + z * d, for the two last coefficients of a series, d being at most 2 ^ -32
last_terms : (c z d : Float) → Small c → Upto (pow 56) z → Upto (fin false 1 (negsuc 31)) d → Upto (pow 25) (c +ᶠ z *ᶠ d)
last_terms c z d C Z D = plus 0 24 24 c (z *ᶠ d) (omega arith) (omega arith) (omega arith) C (product z d Z D)
  where
    product : (z d : Float) → Upto (pow 56) z → Upto (fin false 1 (negsuc 31)) d → Upto (pow 24) (z *ᶠ d)
    product z d Z D = unfold mul in upto_mul binary64 (pow 56) (fin false 1 (negsuc 31)) tt tt z d Z D

sine_series_lem : (z : Float) → Upto (pow 56) z → Upto (pow 194) (sine_series z)
unfolding le lt eq fabs of_bits
sine_series_lem z Z =
    plus 114 193 193 (S2 +ᶠ z *ᶠ (S3 +ᶠ z *ᶠ S4)) (z *ᶠ (z *ᶠ z) *ᶠ (S5 +ᶠ z *ᶠ S6)) (omega arith) (omega arith) (omega arith)
    (horner 56 57 S2 z (S3 +ᶠ z *ᶠ S4) (omega arith) tt Z (horner 56 0 S3 z S4 (omega arith) tt Z tt))
    (times 168 25 (z *ᶠ (z *ᶠ z)) (S5 +ᶠ z *ᶠ S6) (omega arith) (times 56 112 z (z *ᶠ z) (omega arith) Z (times 56 56 z z (omega arith) Z Z)) (last_terms S5 z S6 tt Z tt))

module _ (x y : Float) (X : Upto (pow 28) x) (Y : Upto (pow 30) y) where
  abbrev z : Float
  z = x *ᶠ x

  Z : Upto (pow 56) z
  Z = times 28 28 x x (omega arith) X X

  abbrev v : Float
  v = z *ᶠ x

  W : Upto (pow 84) v
  W = times 56 28 z x (omega arith) Z X

  R : Upto (pow 194) (sine_series z)
  R = sine_series_lem z Z

  half_small : Small half
  unfolding le lt eq fabs of_bits
  half_small = tt

  one_small : Small one
  unfolding le lt eq fabs of_bits
  one_small = tt

  sine_0 : Upto (pow 366) (k_sin0 x)
  unfolding le lt eq fabs of_bits
  sine_0 =
      pow_wider 336 366 (k_sin0 x) (omega arith)
      (plus 28 335 335 x (v *ᶠ (S1 +ᶠ z *ᶠ sine_series z)) (omega arith) (omega arith) (omega arith) X
      (times 84 251 v (S1 +ᶠ z *ᶠ sine_series z) (omega arith) W (horner 56 194 S1 z (sine_series z) (omega arith) tt Z R)))

  sine_1 : Upto (pow 366) (k_sin x y)
  unfolding le lt eq fabs of_bits
  sine_1 =
      let a = half *ᶠ y -ᶠ v *ᶠ sine_series z in
      let A : Upto (pow 279) a = less 30 278 278 (half *ᶠ y) (v *ᶠ sine_series z) (omega arith) (omega arith) (omega arith) (times 0 30 half y (omega arith) half_small Y) (times 84 194 v (sine_series z) (omega arith) W R) in
      let b = z *ᶠ a -ᶠ y in
      let B : Upto (pow 336) b = less 335 30 335 (z *ᶠ a) y (omega arith) (omega arith) (omega arith) (times 56 279 z a (omega arith) Z A) Y in
      pow_wider 338 366 (k_sin x y) (omega arith)
      (less 28 337 337 x (b -ᶠ v *ᶠ S1) (omega arith) (omega arith) (omega arith) X
      (less 336 84 336 b (v *ᶠ S1) (omega arith) (omega arith) (omega arith) B (times 84 0 v S1 (omega arith) W tt)))

  cosine_1 : Upto (pow 366) (k_cos x y)
  unfolding le lt eq fabs of_bits
  cosine_1 =
      let w = z *ᶠ z in
      let r = z *ᶠ (C1 +ᶠ z *ᶠ (C2 +ᶠ z *ᶠ C3)) +ᶠ w *ᶠ w *ᶠ (C4 +ᶠ z *ᶠ (C5 +ᶠ z *ᶠ C6)) in
      let hz = half *ᶠ z in
      let u = one -ᶠ hz in
      let S : Upto (pow 112) w = times 56 56 z z (omega arith) Z Z in
      let H : Upto (pow 56) hz = times 0 56 half z (omega arith) half_small Z in
      let U : Upto (pow 57) u = less 0 56 56 one hz (omega arith) (omega arith) (omega arith) one_small H in
      let Q : Upto (pow 307) r =
      plus 170 306 306 (z *ᶠ (C1 +ᶠ z *ᶠ (C2 +ᶠ z *ᶠ C3))) (w *ᶠ w *ᶠ (C4 +ᶠ z *ᶠ (C5 +ᶠ z *ᶠ C6))) (omega arith) (omega arith) (omega arith)
      (times 56 114 z (C1 +ᶠ z *ᶠ (C2 +ᶠ z *ᶠ C3)) (omega arith) Z (horner 56 57 C1 z (C2 +ᶠ z *ᶠ C3) (omega arith) tt Z (horner 56 0 C2 z C3 (omega arith) tt Z tt)))
      (times 224 82 (w *ᶠ w) (C4 +ᶠ z *ᶠ (C5 +ᶠ z *ᶠ C6)) (omega arith) (times 112 112 w w (omega arith) S S) (horner 56 25 C4 z (C5 +ᶠ z *ᶠ C6) (omega arith) tt Z (last_terms C5 z C6 tt Z tt))) in
      let low : Upto (pow 59) (one -ᶠ u -ᶠ hz) = less 58 56 58 (one -ᶠ u) hz (omega arith) (omega arith) (omega arith) (less 0 57 57 one u (omega arith) (omega arith) (omega arith) one_small U) H in
      let high : Upto (pow 364) (z *ᶠ r -ᶠ x *ᶠ y) = less 363 58 363 (z *ᶠ r) (x *ᶠ y) (omega arith) (omega arith) (omega arith) (times 56 307 z r (omega arith) Z Q) (times 28 30 x y (omega arith) X Y) in
      (plus 57 365 365 u (one -ᶠ u -ᶠ hz +ᶠ (z *ᶠ r -ᶠ x *ᶠ y)) (omega arith) (omega arith) (omega arith) U
      (plus 59 364 364 (one -ᶠ u -ᶠ hz) (z *ᶠ r -ᶠ x *ᶠ y) (omega arith) (omega arith) (omega arith) low high))

-- ---- what is left of an angle

abbrev Left : Rest → Type 0
Left r = Upto (pow 28) r.y0 × Upto (pow 30) r.y1

either : (b : Bool) (r s : Rest) → Left r → Left s → Left (cond b r s)
either true r s p q = p
either false r s p q = q

parted_left : (q : ℕ) (r w : Float) → Upto (pow 24) r → Upto (pow 27) w → Left (parted q r w)
parted_left q r w R W =
    let Y : Upto (pow 28) (r -ᶠ w) = less 24 27 27 r w (omega arith) (omega arith) (omega arith) R W in
    (Y, less 29 27 29 (r -ᶠ (r -ᶠ w)) w (omega arith) (omega arith) (omega arith) (less 24 28 28 r (r -ᶠ w) (omega arith) (omega arith) (omega arith) R Y) W)

counted : (x : Float) → T (within x) → Upto (pow 20) (f_n x)
unfolding sub neg le lt eq of_bits is_finite
counted x h = in_upto (pow 20) (f_n x) (in_sub (fin false 6442450943 (pos 20)) (fin false 6442450945 (pos 20)) TO_INT TO_INT tt tt tt tt (tmp x) TO_INT (tmp_range x h) (tt, tt))

-- n quarter turns of a part of π/2
module _ (n : Float) (N : Upto (pow 20) n) where
  part : (p : Float) → Small p → Upto (pow 20) (n *ᶠ p)
  part p P = times 20 0 n p (omega arith) N P

  -- n * p - ((t - r) - w), with r = t - w and w = n * p'
  rest : (k : ℕ) (t w u : Float) → 20 ≤ k → k ≤ 100 → Upto (pow k) t → Upto (pow 20) w → Upto (pow 20) u → Upto (pow (suc k)) (t -ᶠ w) × Upto (pow (suc (suc (suc (suc k))))) (u -ᶠ ((t -ᶠ (t -ᶠ w)) -ᶠ w))
  rest k t w u L H A W U =
      let R : Upto (pow (suc k)) (t -ᶠ w) = less k 20 k t w (omega arith) L (omega arith) A W in
      let B : Upto (pow (suc (suc k))) (t -ᶠ (t -ᶠ w)) = less k (suc k) (suc k) t (t -ᶠ w) (omega arith) (omega arith) (omega arith) A R in
      let C : Upto (pow (suc (suc (suc k)))) ((t -ᶠ (t -ᶠ w)) -ᶠ w) = less (suc (suc k)) 20 (suc (suc k)) (t -ᶠ (t -ᶠ w)) w (omega arith) (omega arith) (omega arith) B W in
      (R, less 20 (suc (suc (suc k))) (suc (suc (suc k))) u ((t -ᶠ (t -ᶠ w)) -ᶠ w) (omega arith) (omega arith) (omega arith) U C)

  third_left : (q : ℕ) (t : Float) → Upto (pow 23) t → Left (third_round q n t)
  unfolding le lt eq fabs of_bits
  third_left q t A =
      let r = rest 23 t (n *ᶠ PIO2_3) (n *ᶠ PIO2_3T) (omega arith) (omega arith) A (part PIO2_3 tt) (part PIO2_3T tt) in
      parted_left q (t -ᶠ n *ᶠ PIO2_3) (n *ᶠ PIO2_3T -ᶠ ((t -ᶠ (t -ᶠ n *ᶠ PIO2_3)) -ᶠ n *ᶠ PIO2_3)) r.0 r.1

  second_left : (ex q : ℕ) (t : Float) → Upto (pow 22) t → Left (second_round ex q n t)
  unfolding second_round le lt eq fabs of_bits
  second_left ex q t A =
      let w = n *ᶠ PIO2_2 in
      let w' = n *ᶠ PIO2_2T -ᶠ ((t -ᶠ (t -ᶠ w)) -ᶠ w) in
      let r = rest 22 t w (n *ᶠ PIO2_2T) (omega arith) (omega arith) A (part PIO2_2 tt) (part PIO2_2T tt) in
      either (ltb 49 (ex - exponent (t -ᶠ w -ᶠ w'))) (third_round q n (t -ᶠ w)) (parted q (t -ᶠ w) w') (third_left q (t -ᶠ w) r.0)
      (parted_left q (t -ᶠ w) w' (pow_wider 23 24 (t -ᶠ w) (omega arith) r.0) (pow_wider 26 27 w' (omega arith) r.1))

module _ (x : Float) (H : T (within x)) where
  X : Upto (pow 20) x
  X = within_pow x H

  medium_left : (ix : ℕ) → Left (medium x ix)
  unfolding medium le lt eq fabs of_bits
  medium_left ix =
      let n = f_n x in
      let N = counted x H in
      let r = x -ᶠ n *ᶠ PIO2_1 in
      let w = n *ᶠ PIO2_1T in
      let R : Upto (pow 22) r = less 20 21 21 x (n *ᶠ PIO2_1) (omega arith) (omega arith) (omega arith) X (times 20 1 n PIO2_1 (omega arith) N tt) in
      either (ltb 16 (ix / 2 ^ 20 - exponent (r -ᶠ w))) (second_round (ix / 2 ^ 20) (turns x) n r) (parted (turns x) r w) (second_left n N (ix / 2 ^ 20) (turns x) r R)
      (parted_left (turns x) r w (pow_wider 22 24 r (omega arith) R) (pow_wider 20 27 w (omega arith) (part n N PIO2_1T tt)))

  round_left : (n n' : ℤ) (p t : Float) → Upto (pow 3) p → Small t → Left (one_round n n' x p t)
  round_left n n' p t P S = either (eqb (sign x) 0) (taken_off (quarter n) x p t) (added (quarter n') x p t) off on
    where
      off : Left (taken_off (quarter n) x p t)
      off =
          let Z : Upto (pow 21) (x -ᶠ p) = less 20 3 20 x p (omega arith) (omega arith) (omega arith) X P in
          let Y : Upto (pow 22) (x -ᶠ p -ᶠ t) = less 21 0 21 (x -ᶠ p) t (omega arith) (omega arith) (omega arith) Z S in
          (pow_wider 22 28 (x -ᶠ p -ᶠ t) (omega arith) Y, pow_wider 24 30 _ (omega arith) (less 23 0 23 (x -ᶠ p -ᶠ (x -ᶠ p -ᶠ t)) t (omega arith) (omega arith) (omega arith) (less 21 22 22 (x -ᶠ p) (x -ᶠ p -ᶠ t) (omega arith) (omega arith) (omega arith) Z Y) S))

      on : Left (added (quarter n') x p t)
      on =
          let Z : Upto (pow 21) (x +ᶠ p) = plus 20 3 20 x p (omega arith) (omega arith) (omega arith) X P in
          let Y : Upto (pow 22) (x +ᶠ p +ᶠ t) = plus 21 0 21 (x +ᶠ p) t (omega arith) (omega arith) (omega arith) Z S in
          (pow_wider 22 28 (x +ᶠ p +ᶠ t) (omega arith) Y, pow_wider 24 30 _ (omega arith) (plus 23 0 23 (x +ᶠ p -ᶠ (x +ᶠ p +ᶠ t)) t (omega arith) (omega arith) (omega arith) (less 21 22 22 (x +ᶠ p) (x +ᶠ p +ᶠ t) (omega arith) (omega arith) (omega arith) Z Y) S))

  five_left : (ix : ℕ) → Left (to_five x ix)
  unfolding to_five mul le lt eq fabs of_bits
  five_left ix =
      either (eqb (ix % 2 ^ 20) 0x921fb) (medium x ix) _ (medium_left ix)
      (either (leb ix 0x4002d97c) (one_round (pos 1) (negsuc 0) x PIO2_1 PIO2_1T) (one_round (pos 2) (negsuc 1) x (two *ᶠ PIO2_1) (two *ᶠ PIO2_1T)) (round_left (pos 1) (negsuc 0) PIO2_1 PIO2_1T tt tt) (round_left (pos 2) (negsuc 1) (two *ᶠ PIO2_1) (two *ᶠ PIO2_1T) tt tt))

  nine_left : (ix : ℕ) → Left (to_nine x ix)
  unfolding to_nine mul le lt eq fabs of_bits
  nine_left ix =
      either (leb ix 0x4015fdbc) (to_seven x ix) (from_seven x ix)
      (either (eqb ix 0x4012d97c) (medium x ix) (one_round (pos 3) (negsuc 2) x (three *ᶠ PIO2_1) (three *ᶠ PIO2_1T)) (medium_left ix) (round_left (pos 3) (negsuc 2) (three *ᶠ PIO2_1) (three *ᶠ PIO2_1T) tt tt))
      (either (eqb ix 0x401921fb) (medium x ix) (one_round (pos 4) (negsuc 3) x (four *ᶠ PIO2_1) (four *ᶠ PIO2_1T)) (medium_left ix) (round_left (pos 4) (negsuc 3) (four *ᶠ PIO2_1) (four *ᶠ PIO2_1T) tt tt))

  rest_left : Left (rem_pio2 x)
  unfolding rem_pio2
  rest_left =
      either (leb (high_word x) 0x400f6a7a) (to_five x (high_word x)) _ (five_left (high_word x))
      (either (leb (high_word x) 0x401c463b) (to_nine x (high_word x)) (medium x (high_word x)) (nine_left (high_word x)) (medium_left (high_word x)))

-- ---- the sine and the cosine

abbrev pub Bounded : Sines → Type 0
Bounded s = Upto (pow 366) s.sin × Upto (pow 366) s.cos

picked : (k m : ℕ) (a b c d : Float) → Upto (pow k) a → Upto (pow k) b → Upto (pow k) c → Upto (pow k) d → Upto (pow k) (choose m a b c d)
unfolding choose
picked k m a b c d p q r s = go (eqb m 0) (eqb m 1) (eqb m 2)
  where
    go : (x y z : Bool) → Upto (pow k) (cond x a (cond y b (cond z c d)))
    go true y z = p
    go false true z = q
    go false false true = r
    go false false false = s

turned_bounded : (r : Rest) → Left r → Bounded (turned_sines r)
unfolding turned_sines
turned_bounded r h =
    let s = k_sin r.y0 r.y1 in
    let c = k_cos r.y0 r.y1 in
    let S = sine_1 r.y0 r.y1 h.0 h.1 in
    let C = cosine_1 r.y0 r.y1 h.0 h.1 in
    (picked 366 r.quarter s c (neg s) (neg c) S C (pow_neg 366 s S) (pow_neg 366 c C), picked 366 r.quarter c (neg s) (neg c) s C (pow_neg 366 s S) (pow_neg 366 c C) S)

pub sines_bounded : (x : Float) → T (within x) → Bounded (sines x)
unfolding sines
sines_bounded x h = go (leb (high_word x) 0x3fe921fb) (ltb (high_word x) 0x3e46a09e)
  where
    X : Upto (pow 28) x
    X = pow_wider 20 28 x (omega arith) (within_pow x h)

    go : (p q : Bool) → Bounded (cond p (cond q (record { sin = x; cos = one }) (record { sin = k_sin0 x; cos = k_cos x zero })) (turned_sines (rem_pio2 x)))
    go true true = (pow_wider 28 366 x (omega arith) X, pow_wider 0 366 one (omega arith) (unfold le lt eq fabs of_bits in tt))
    go true false = (sine_0 x zero X (unfold le lt eq fabs of_bits in tt), cosine_1 x zero X (unfold le lt eq fabs of_bits in tt))
    go false q = turned_bounded (rem_pio2 x) (rest_left x h)
