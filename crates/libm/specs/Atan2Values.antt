-- Values of the arctangents, which antt computes from the definitions: the special values of ISO C,
-- Annex F, then answers that libm 0.2.1 gave. Assumes nothing.
use Rattle.std.specs.Prelude.{ℕ, ◌≡◌, refl, List, [], ◌∷◌, map, Float}
use Rattle.std.specs.Float.Ieee.{add, sub, mul, div, neg, is_nan, to_bits, of_bits}
use Rattle.checked.specs.Numbers.{literal}
use Rattle.float_bits.specs.FloatBits.{choose, signed, fabs}
use Rattle.float_bits.specs.Special.{minus, nought, least, one, greatest, infinity, not_a_number, π, π/2, π/4, 3π/4}
use Rattle.libm.specs.Atan2.{is_one, ratio_angle, angle, atan2}
use Rattle.libm.specs.Atan.{reduced, atan}

-- the patterns of y, of x and of the angle
record Row : Type 0 where
  y : ℕ
  x : ℕ
  answer : ℕ

abbrev row : ℕ → ℕ → ℕ → Row
row y x a = record { y = y; x = x; answer = a }

special : List Row
special =
    row nought nought nought
    ∷ row (minus nought) nought (minus nought)
    ∷ row nought (minus nought) π
    ∷ row (minus nought) (minus nought) (minus π)
    ∷ row nought one nought
    ∷ row (minus nought) one (minus nought)
    ∷ row nought (minus one) π
    ∷ row (minus nought) (minus one) (minus π)
    ∷ row nought infinity nought
    ∷ row (minus nought) infinity (minus nought)
    ∷ row nought (minus infinity) π
    ∷ row (minus nought) (minus infinity) (minus π)
    ∷ row one nought π/2
    ∷ row one (minus nought) π/2
    ∷ row (minus one) nought (minus π/2)
    ∷ row (minus one) (minus nought) (minus π/2)
    ∷ row least nought π/2
    ∷ row (minus greatest) (minus nought) (minus π/2)
    ∷ row one (minus infinity) π
    ∷ row (minus one) (minus infinity) (minus π)
    ∷ row one infinity nought
    ∷ row (minus one) infinity (minus nought)
    ∷ row infinity one π/2
    ∷ row infinity (minus one) π/2
    ∷ row (minus infinity) one (minus π/2)
    ∷ row (minus infinity) (minus one) (minus π/2)
    ∷ row infinity nought π/2
    ∷ row (minus infinity) (minus nought) (minus π/2)
    ∷ row infinity (minus infinity) 3π/4
    ∷ row (minus infinity) (minus infinity) (minus 3π/4)
    ∷ row infinity infinity π/4
    ∷ row (minus infinity) infinity (minus π/4)
    ∷ row not_a_number one not_a_number
    ∷ row one not_a_number not_a_number
    ∷ row not_a_number infinity not_a_number
    ∷ row nought not_a_number not_a_number
    ∷ row not_a_number not_a_number not_a_number
    ∷ []

answered : List Row
answered =
    row 0x3ff00000_00000000 0x3ff00000_00000000 0x3fe921fb_54442d18
    ∷ row 0x40080000_00000000 0x40100000_00000000 0x3fe4978f_a3269ee1
    ∷ row 0xc0080000_00000000 0x40100000_00000000 0xbfe4978f_a3269ee1
    ∷ row 0x40080000_00000000 0xc0100000_00000000 0x4003fc17_6b7a8560
    ∷ row 0xc0080000_00000000 0xc0100000_00000000 0xc003fc17_6b7a8560
    ∷ row 0x01a56e1f_c2f8f359 0xfe37e43c_8800759c 0x400921fb_54442d18
    ∷ row 0x00000000_00000001 0x3ff00000_00000000 0x00000000_00000001
    ∷ row 0x7e37e43c_8800759c 0x01a56e1f_c2f8f359 0x3ff921fb_54442d18
    ∷ row 0x3fd33333_33333333 0x3feccccc_cccccccd 0x3fd4978f_a3269ee1
    ∷ row 0x40000000_00000000 0x3ff00000_00000000 0x3ff1b6e1_92ebbe44
    ∷ []

computed : List Row → List Float
computed rows = map (λ r. atan2 (literal r.y) (literal r.x)) rows

due : List Row → List Float
due rows = map (λ r. literal r.answer) rows

special_values : computed special ≡ due special
unfolding special computed due atan2 angle is_one ratio_angle atan reduced fabs choose signed add sub mul div neg to_bits of_bits is_nan
special_values = refl

answers_of_libm : computed answered ≡ due answered
unfolding answered computed due atan2 angle is_one ratio_angle atan reduced fabs choose signed add sub mul div neg to_bits of_bits is_nan
answers_of_libm = refl

-- the arctangents of +0, -0, the infinities, a NaN and 1
atans : map (λ p. atan (literal p)) (nought ∷ minus nought ∷ infinity ∷ minus infinity ∷ not_a_number ∷ one ∷ [])
    ≡ map literal (nought ∷ minus nought ∷ π/2 ∷ minus π/2 ∷ not_a_number ∷ π/4 ∷ [])
unfolding atan reduced fabs signed add sub mul div neg to_bits of_bits is_nan
atans = refl
