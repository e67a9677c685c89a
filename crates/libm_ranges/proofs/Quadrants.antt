-- The angle of a point with finite coordinates lies in [−π, π], and so is finite. Assumes nothing.
use Rattle.std.specs.Prelude.{◌≡◌, Bool, cond, ◌||◌, T, eqb, ℤ, pos, Float}
use Rattle.std.proofs.Math.Path.{refl, subst}
use Rattle.std.proofs.Common.{sym, ap, ◌∙◌, mul-pos, zero-lt-suc, arith, eqb→eq}
use Rattle.std.proofs.Math.Bool.{true, false}
use Prim.Native.Nat as N
use Prim.Native.Nat.{ℕ, suc, ◌+◌, ◌*◌, ◌%◌, ◌<◌}
use Rattle.std.specs.Float.{nan, inf, fin}
use Rattle.std.specs.Float.Ieee.{binary64, up, sub, mul, div, neg, le, lt, eq, fits, is_nan, to_bits, of_bits}
use Rattle.std.specs.Float.Ieee.Fits.{div-fits, up_pos}
use Rattle.std.specs.Float.Ieee.Bits.{is_false}
use Rattle.checked.specs.Checked.{is_finite}
use Rattle.checked.specs.Patterns.{high_word}
use Rattle.order.specs.Order.{le_numbers}
use Rattle.checked.specs.Numbers.{literal, zero, two, three, four, pi}
use Rattle.float_bits.specs.FloatBits.{fabs, sign, size, choose, ◌+ᶠ◌, ◌-ᶠ◌, ◌*ᶠ◌, ◌/ᶠ◌}
use Rattle.float_bits.specs.Laws.{fabs_bits, fabs_fits, fabs_twice}
use Rattle.rounding.specs.Values.{zero_exponent}
use Rattle.libm.specs.Atan.{atan}
use Rattle.libm.specs.Atan2.{atan2, angle, is_one, PI_LO, at_zero_y, quarter_turn, both_infinite, infinite_x, at_infinite_x, too_flat, too_steep, ratio_angle, in_quadrant}
use Rattle.float_bounds.specs.Parts.{nought, plus, minus, above, under, den}
use Rattle.float_bounds.proofs.Parts.{den_pos, positive_round}
use Rattle.float_bounds.specs.Intervals.{In, Upto}
use Rattle.float_bounds.proofs.Intervals.{upto_in, in_sub, in_neg, in_wider, in_finite, div_is, finite_number}
use Rattle.libm_ranges.specs.Arctangents.{three as bound, Turned}
use Rattle.libm_ranges.proofs.Arctangents.{atan_turned}
use Rattle.libm_ranges.specs.Quadrants.{Angle}

-- ---- a choice of angles

either : (b : Bool) (u v : Float) → Angle u → Angle v → Angle (cond b u v)
either true u v p q = p
either false u v p q = q

chosen : (m : ℕ) (a b c d : Float) → Angle a → Angle b → Angle c → Angle d → Angle (choose m a b c d)
unfolding choose
chosen m a b c d p q r s = either (eqb m 0) a _ p (either (eqb m 1) b _ q (either (eqb m 2) c d r s))

-- ---- the constants

half_circles : Angle pi × Angle (neg pi)
unfolding neg le lt eq of_bits
half_circles = ((tt, tt), (tt, tt))

quarters : (m : ℕ) → Angle (quarter_turn m)
unfolding neg div le lt eq of_bits
quarters m = either (eqb (m % 2) 0) (pi /ᶠ two) (neg pi /ᶠ two) (tt, tt) (tt, tt)

at_infinite_x_lem : (m iy : ℕ) → Angle (at_infinite_x m iy)
unfolding neg mul div le lt eq of_bits
at_infinite_x_lem m iy =
    either (eqb iy 0x7ff00000) (both_infinite m) (infinite_x m)
    (chosen m (pi /ᶠ four) (neg pi /ᶠ four) (three *ᶠ pi /ᶠ four) (neg three *ᶠ pi /ᶠ four) (tt, tt) (tt, tt) (tt, tt) (tt, tt))
    (chosen m zero (neg zero) pi (neg pi) (tt, tt) (tt, tt) (tt, tt) (tt, tt))

-- ---- y is zero

at_zero_y_lem : (m : ℕ) (y : Float) → T (fits binary64 y) → size y ≡ 0 → Angle (at_zero_y m y)
at_zero_y_lem m y F h =
    let Y : Upto nought y = subst (λ (v : Float). T (le v nought)) (sym (ap literal h) ∙ fabs_bits y F) (unfold le lt eq of_bits in tt) in
    let own : Angle y = in_wider (neg nought) nought (neg pi) pi y (unfold neg le lt eq of_bits in tt) (unfold le lt eq of_bits in tt) (upto_in nought y Y) in
    chosen m y y pi (neg pi) own own half_circles.0 half_circles.1

-- ---- by quadrants

in_quadrant_lem : (m : ℕ) (z : Float) → In nought bound z → Angle (in_quadrant m z)
unfolding sub neg le lt eq of_bits is_finite
in_quadrant_lem m z h =
    let less : In (nought -ᶠ PI_LO) (bound -ᶠ PI_LO) (z -ᶠ PI_LO) = in_sub nought bound PI_LO PI_LO tt tt tt tt z PI_LO h (tt, tt) in
    chosen m z (neg z) (pi -ᶠ (z -ᶠ PI_LO)) (z -ᶠ PI_LO -ᶠ pi)
    (in_wider nought bound (neg pi) pi z tt tt h)
    (in_wider (neg bound) (neg nought) (neg pi) pi (neg z) tt tt (in_neg nought bound z h))
    (in_wider (pi -ᶠ (bound -ᶠ PI_LO)) (pi -ᶠ (nought -ᶠ PI_LO)) (neg pi) pi (pi -ᶠ (z -ᶠ PI_LO)) tt tt (in_sub pi pi (nought -ᶠ PI_LO) (bound -ᶠ PI_LO) tt tt tt tt pi (z -ᶠ PI_LO) (tt, tt) less))
    (in_wider (nought -ᶠ PI_LO -ᶠ pi) (bound -ᶠ PI_LO -ᶠ pi) (neg pi) pi (z -ᶠ PI_LO -ᶠ pi) tt tt (in_sub (nought -ᶠ PI_LO) (bound -ᶠ PI_LO) pi pi tt tt tt tt (z -ᶠ PI_LO) pi less (tt, tt)))

-- a number that is not zero, as a fraction
zero_size : (s : Bool) → T (eqb (size (fin s 0 (pos 0))) 0)
unfolding to_bits
zero_size true = tt
zero_size false = tt

more : (s : Bool) (n : ℕ) → 0 < n → 0 < plus s n + minus s n
more true n h = omega arith
more false n h = omega arith

some : (x : Float) → T (is_finite x) → T (fits binary64 x) → eqb (size x) 0 ≡ false → 0 < above x + under x
some nan X F h = absurd (unfold is_finite in X)
some (inf s) X F h = absurd (unfold is_finite in X)
some (fin s N.zero e) X F h = absurd (subst T (sym (ap (λ (d : ℤ). eqb (size (fin s 0 d)) 0) (zero_exponent binary64 s e F)) ∙ h) (zero_size s))
some (fin s (suc m) e) X F h = more s (suc m * up e) (mul-pos (zero-lt-suc m) (up_pos e))

module _ (y x : Float) (Y : T (is_finite y)) (X : T (is_finite x)) (F : T (fits binary64 y)) (G : T (fits binary64 x)) where
  ratio_number : 0 < above x + under x → is_nan (fabs (y /ᶠ x)) ≡ false
  ratio_number h =
      is_false (is_nan (fabs (y /ᶠ x)))
      (le_numbers nought (fabs (y /ᶠ x)) (subst (λ (v : Float). T (le nought v)) (sym (div_is binary64 y x Y X h)) (positive_round binary64 ((above y + under y) * den x) ((above x + under x) * den y) (mul-pos h (den_pos y))))).1

  ratio_angle_lem : eqb (size x) 0 ≡ false → In nought bound (ratio_angle y x)
  unfolding ratio_angle
  ratio_angle_lem h = pick (too_flat y x)
    where
      t : Turned (fabs (y /ᶠ x)) (atan (fabs (y /ᶠ x)))
      t = atan_turned (fabs (y /ᶠ x)) (fabs_fits (y /ᶠ x) (div-fits binary64 y x)) (ratio_number (some x X G h))

      pick : (b : Bool) → In nought bound (cond b zero (atan (fabs (y /ᶠ x))))
      pick true = unfold le lt eq of_bits in (tt, tt)
      pick false = (t.1 (fabs_twice (y /ᶠ x)), (upto_in bound (atan (fabs (y /ᶠ x))) t.0).1)

  angle_range : Angle (angle y x)
  unfolding angle
  angle_range = by (is_one x) (eqb (size y) 0) (eqb→eq (size y) 0) (eqb (size x) 0) refl (eqb (high_word x) 0x7ff00000) (too_steep (high_word y) (high_word x))
    where
      m : ℕ
      m = 2 * sign x + sign y

      by : (p q : Bool) → (T q → size y ≡ 0) → (r : Bool) → eqb (size x) 0 ≡ r → (s t : Bool)
          → Angle (cond p (atan y) (cond q (at_zero_y m y) (cond r (quarter_turn m) (cond s (at_infinite_x m (high_word y)) (cond t (quarter_turn m) (in_quadrant m (ratio_angle y x)))))))
      by true q e r h s t = in_wider (neg bound) bound (neg pi) pi (atan y) (unfold neg le lt eq of_bits in tt) (unfold le lt eq of_bits in tt) (upto_in bound (atan y) (atan_turned y F (is_false (is_nan y) (finite_number y Y))).0)
      by false true e r h s t = at_zero_y_lem m y F (e tt)
      by false false e true h s t = quarters m
      by false false e false h true t = at_infinite_x_lem m (high_word y)
      by false false e false h false true = quarters m
      by false false e false h false false = in_quadrant_lem m (ratio_angle y x) (ratio_angle_lem h)

  pub atan2_range : Angle (atan2 y x)
  unfolding atan2
  atan2_range = subst (λ (b : Bool). Angle (cond b (x +ᶠ y) (angle y x))) (sym (λ i. is_false (is_nan x) (finite_number x X) i || is_false (is_nan y) (finite_number y Y) i)) angle_range

  pub atan2_finite : T (is_finite (atan2 y x))
  unfolding neg of_bits is_finite
  atan2_finite = in_finite (neg pi) pi (atan2 y x) tt tt atan2_range
