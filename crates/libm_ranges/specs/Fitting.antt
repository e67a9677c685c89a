-- The arctangent of a value of the format, and the angle of a point, are values of the format.
-- Assumes nothing.
use Rattle.std.specs.Prelude.{◌||◌, ℕ, ◌+◌, ◌*◌, ◌%◌, T, leb, ltb, eqb, Float}
use Rattle.std.specs.Float.{binary64}
use Rattle.std.specs.Float.Ieee.{neg, fits, is_nan}
use Rattle.std.specs.Float.Ieee.Fits.{cond-fits, neg-fits, add-fits, sub-fits, div-fits}
use Rattle.std.specs.Float.Ieee.Bits.{of_bits-fits}
use Rattle.checked.specs.Numbers.{literal, zero, two, three, four, pi}
use Rattle.checked.specs.Patterns.{high_word}
use Rattle.float_bits.specs.FloatBits.{size, sign, signed, choose, fabs, ◌+ᶠ◌, ◌-ᶠ◌, ◌*ᶠ◌, ◌/ᶠ◌}
use Rattle.float_bits.specs.Laws.{fabs_fits}
use Rattle.libm.specs.Atan.{ATANHI3, atan, atan_huge, atan_small, series, folded, reduced}
use Rattle.libm.specs.Atan2.{PI_LO, atan2, angle, is_one, at_zero_y, quarter_turn, both_infinite, infinite_x, at_infinite_x, too_flat, too_steep, ratio_angle, in_quadrant}

abbrev Fits : Float → Type 0
Fits x = T (fits binary64 x)

signed_fits : (s : ℕ) (z : Float) → Fits z → Fits (signed s z)
unfolding signed
signed_fits s z F = cond-fits binary64 (eqb s 0) z (neg z) F (neg-fits binary64 z F)

choose_fits : (m : ℕ) (a b c d : Float) → Fits a → Fits b → Fits c → Fits d → Fits (choose m a b c d)
unfolding choose
choose_fits m a b c d p q r s = cond-fits binary64 (eqb m 0) a _ p (cond-fits binary64 (eqb m 1) b _ q (cond-fits binary64 (eqb m 2) c d r s))

pub atan_fits : (x : Float) → Fits x → Fits (atan x)
unfolding atan
atan_fits x F =
    let ix = high_word x in
    let r = folded (reduced ix (fabs x)) in
    cond-fits binary64 (leb 0x44100000 ix) (atan_huge x) _
    (cond-fits binary64 (is_nan x) x (signed (sign x) (ATANHI3 +ᶠ literal 0x03800000)) F (signed_fits (sign x) (ATANHI3 +ᶠ literal 0x03800000) (add-fits binary64 ATANHI3 (literal 0x03800000))))
    (cond-fits binary64 (ltb ix 0x3fdc0000) (atan_small ix x) (signed (sign x) r)
    (cond-fits binary64 (ltb ix 0x3e400000) x (x -ᶠ series x) F (sub-fits binary64 x (series x)))
    (signed_fits (sign x) r (sub-fits binary64 (reduced ix (fabs x)).high (series (reduced ix (fabs x)).x -ᶠ (reduced ix (fabs x)).low -ᶠ (reduced ix (fabs x)).x))))

pi_fits : Fits pi
pi_fits = of_bits-fits binary64 0x4009_21fb_5444_2d18

ratio_fits : (y x : Float) → Fits (ratio_angle y x)
unfolding ratio_angle
ratio_fits y x = cond-fits binary64 (too_flat y x) zero (atan (fabs (y /ᶠ x))) (of_bits-fits binary64 0) (atan_fits (fabs (y /ᶠ x)) (fabs_fits (y /ᶠ x) (div-fits binary64 y x)))

quarter_fits : (m : ℕ) → Fits (quarter_turn m)
quarter_fits m = cond-fits binary64 (eqb (m % 2) 0) (pi /ᶠ two) (neg pi /ᶠ two) (div-fits binary64 pi two) (div-fits binary64 (neg pi) two)

infinite_fits : (m iy : ℕ) → Fits (at_infinite_x m iy)
infinite_fits m iy =
    cond-fits binary64 (eqb iy 0x7ff00000) (both_infinite m) (infinite_x m)
    (choose_fits m (pi /ᶠ four) (neg pi /ᶠ four) (three *ᶠ pi /ᶠ four) (neg three *ᶠ pi /ᶠ four) (div-fits binary64 pi four) (div-fits binary64 (neg pi) four) (div-fits binary64 (three *ᶠ pi) four) (div-fits binary64 (neg three *ᶠ pi) four))
    (choose_fits m zero (neg zero) pi (neg pi) (of_bits-fits binary64 0) (neg-fits binary64 zero (of_bits-fits binary64 0)) pi_fits (neg-fits binary64 pi pi_fits))

quadrant_fits : (m : ℕ) (z : Float) → Fits z → Fits (in_quadrant m z)
quadrant_fits m z F = choose_fits m z (neg z) (pi -ᶠ (z -ᶠ PI_LO)) ((z -ᶠ PI_LO) -ᶠ pi) F (neg-fits binary64 z F) (sub-fits binary64 pi (z -ᶠ PI_LO)) (sub-fits binary64 (z -ᶠ PI_LO) pi)

angle_fits : (y x : Float) → Fits y → Fits (angle y x)
unfolding angle
angle_fits y x F =
    let m = 2 * sign x + sign y in
    cond-fits binary64 (is_one x) (atan y) _ (atan_fits y F)
    (cond-fits binary64 (eqb (size y) 0) (at_zero_y m y) _ (choose_fits m y y pi (neg pi) F F pi_fits (neg-fits binary64 pi pi_fits))
    (cond-fits binary64 (eqb (size x) 0) (quarter_turn m) _ (quarter_fits m)
    (cond-fits binary64 (eqb (high_word x) 0x7ff00000) (at_infinite_x m (high_word y)) _ (infinite_fits m (high_word y))
    (cond-fits binary64 (too_steep (high_word y) (high_word x)) (quarter_turn m) (in_quadrant m (ratio_angle y x)) (quarter_fits m) (quadrant_fits m (ratio_angle y x) (ratio_fits y x))))))

pub atan2_fits : (y x : Float) → Fits y → Fits (atan2 y x)
unfolding atan2
atan2_fits y x F = cond-fits binary64 (is_nan x || is_nan y) (x +ᶠ y) (angle y x) (add-fits binary64 x y) (angle_fits y x F)
