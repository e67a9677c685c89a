-- Values of sine and cosine, which antt computes from the definitions: the special values of ISO C,
-- Annex F, and the angles that are refused; then answers that libm 0.2.1 gave. Assumes nothing.
use Rattle.std.specs.Prelude.{ℕ, ◌≡◌, refl, List, [], ◌∷◌, map, Float}
use Rattle.std.specs.Float.Ieee.{add, sub, mul, neg, le, to_signed, to_bits, of_bits}
use Rattle.checked.specs.Refusals.{ANGLE_TOO_LARGE, NOT_FINITE}
use Rattle.checked.specs.Checked.{Checked, first, is_finite, nine, eight, within}
use Rattle.checked.specs.Numbers.{literal}
use Rattle.float_bits.specs.FloatBits.{choose}
use Rattle.float_bits.specs.Special.{minus, nought, least, one, greatest, infinity, not_a_number}
use Rattle.libm.specs.declared.sincos.Sines.{Sines}
use Rattle.libm.specs.RemPio2.{second_round, medium, to_five, to_nine, rem_pio2}
use Rattle.libm.specs.Sincos.{turned_sine, sine, turned_sines, sines, sine_or_zero, sines_or_zeros, sin_c, sincos_c}

-- 1,048,576, and the next number up
abbrev limit : ℕ
limit = 0x41300000_00000000

abbrev over : ℕ
over = 0x41300000_00000001

-- the pattern of an angle, the refusal, and the patterns of its sine and cosine
record Row : Type 0 where
  angle : ℕ
  refusal : ℕ
  sin : ℕ
  cos : ℕ

abbrev due : ℕ → ℕ → ℕ → Row
due x s c = record { angle = x; refusal = 0; sin = s; cos = c }

abbrev refused : ℕ → ℕ → Row
refused x n = record { angle = x; refusal = n; sin = nought; cos = nought }

special : List Row
special =
    due nought nought one
    ∷ due (minus nought) (minus nought) one
    ∷ due least least one
    ∷ due (minus least) (minus least) one
    ∷ refused over ANGLE_TOO_LARGE
    ∷ refused (minus over) ANGLE_TOO_LARGE
    ∷ refused greatest ANGLE_TOO_LARGE
    ∷ refused (minus greatest) ANGLE_TOO_LARGE
    ∷ refused infinity NOT_FINITE
    ∷ refused (minus infinity) NOT_FINITE
    ∷ refused not_a_number NOT_FINITE
    ∷ []

answered : List Row
answered =
    due 0x3ff00000_00000000 0x3feaed54_8f090cee 0x3fe14a28_0fb5068c
    ∷ due 0xbff00000_00000000 0xbfeaed54_8f090cee 0x3fe14a28_0fb5068c
    ∷ due 0x3fe921fb_54442d18 0x3fe6a09e_667f3bcc 0x3fe6a09e_667f3bcd
    ∷ due 0x3ff921fb_54442d18 0x3ff00000_00000000 0x3c91a626_33145c07
    ∷ due 0x400921fb_54442d18 0x3ca1a626_33145c07 0xbff00000_00000000
    ∷ due 0xc00921fb_54442d18 0xbca1a626_33145c07 0xbff00000_00000000
    ∷ due 0x4012d97c_7f3321d2 0xbff00000_00000000 0xbcaa7939_4c9e8a0a
    ∷ due 0x401921fb_54442d18 0xbcb1a626_33145c07 0x3ff00000_00000000
    ∷ due 0xc0000000_00000000 0xbfed18f6_ead1b446 0xbfdaa226_57537205
    ∷ due 0x40100000_00000000 0xbfe837b9_dddc1eae 0xbfe4eaa6_06db24c1
    ∷ due 0x40160000_00000000 0xbfe693c9_4e0ab057 0x3fe6ad6c_3c07d448
    ∷ due 0xc01c0000_00000000 0xbfe50608_c26d0a08 0x3fe81ff7_9ed92017
    ∷ due 0x40240000_00000000 0xbfe1689e_f5f34f52 0xbfead9ac_890c6b1f
    ∷ due limit 0x3fd526cc_b2fc8656 0x3fee33ad_a92fe2ae
    ∷ due (minus limit) 0xbfd526cc_b2fc8656 0x3fee33ad_a92fe2ae
    ∷ due 0x3e112e0b_e826d695 0x3e112e0b_e826d695 0x3ff00000_00000000
    ∷ due 0x4104022b_a40fde9e 0xbdb13079_fe9f1fae 0x3ff00000_00000000
    ∷ due 0x40763000_00000000 0xbeff9bd0_307d1de3 0xbfefffff_ffc18e4c
    ∷ due 0x4126ac5b_262ca1ff 0x3fe7421c_6a7e2281 0xbfe5fa7e_4518995a
    ∷ []

sincos_of : Row → Checked Sines
sincos_of r = sincos_c (literal r.angle)

sincos_due : Row → Checked Sines
sincos_due r = record { refusal = r.refusal; value = record { sin = literal r.sin; cos = literal r.cos } }

sin_of : Row → Checked Float
sin_of r = sin_c (literal r.angle)

sin_due : Row → Checked Float
sin_due r = record { refusal = r.refusal; value = literal r.sin }

special_sincos : map sincos_of special ≡ map sincos_due special
unfolding special sincos_of sincos_due sin_of sin_due sines_or_zeros sines turned_sines sine_or_zero sine turned_sine rem_pio2 to_five to_nine medium second_round choose first is_finite nine eight within to_signed add sub mul neg le to_bits of_bits
special_sincos = refl

special_sin : map sin_of special ≡ map sin_due special
unfolding special sincos_of sincos_due sin_of sin_due sines_or_zeros sines turned_sines sine_or_zero sine turned_sine rem_pio2 to_five to_nine medium second_round choose first is_finite nine eight within to_signed add sub mul neg le to_bits of_bits
special_sin = refl

sincos_of_libm : map sincos_of answered ≡ map sincos_due answered
unfolding answered sincos_of sincos_due sin_of sin_due sines_or_zeros sines turned_sines sine_or_zero sine turned_sine rem_pio2 to_five to_nine medium second_round choose first is_finite nine eight within to_signed add sub mul neg le to_bits of_bits
sincos_of_libm = refl

sin_of_libm : map sin_of answered ≡ map sin_due answered
unfolding answered sincos_of sincos_due sin_of sin_due sines_or_zeros sines turned_sines sine_or_zero sine turned_sine rem_pio2 to_five to_nine medium second_round choose first is_finite nine eight within to_signed add sub mul neg le to_bits of_bits
sin_of_libm = refl
