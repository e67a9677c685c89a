-- The cases of libm 0.2.1's arccosine, operation by operation: acos.rs, with its names for
-- constants and variables. Definitions only. libm's square root is IEEE 754's.
-- Method: near 0, π/2 less the arcsine, x plus x times a ratio of polynomials in x²; towards 1 and −1 by the half
-- angle, twice the arcsine of √((1 − |x|) / 2), whose root is taken in two parts.
use Rattle.std.specs.Prelude.{ℕ, leb, eqb, Float, if◌then◌else◌}
use Rattle.std.specs.Float.{binary64}
use Rattle.checked.specs.Patterns.{upper}
use Rattle.checked.specs.Numbers.{zero, half, one, two, literal}
use Rattle.rounding.specs.Root as Root
use Rattle.float_bits.specs.FloatBits.{◌+ᶠ◌, ◌-ᶠ◌, ◌*ᶠ◌, ◌/ᶠ◌, size, sign}

-- the square root
abbrev pub sqrt : Float → Float
sqrt x = Root.sqrt binary64 x

-- π/2 in two parts
abbrev pub PIO2_HI : Float
PIO2_HI = literal 0x3FF921FB_54442D18  -- 1.57079632679489655800e+00

abbrev pub PIO2_LO : Float
PIO2_LO = literal 0x3C91A626_33145C07  -- 6.12323399573676603587e-17

-- the coefficients of the ratio
abbrev pub PS0 : Float
PS0 = literal 0x3FC55555_55555555  -- 1.66666666666666657415e-01

abbrev pub PS1 : Float
PS1 = literal 0xBFD4D612_03EB6F7D  -- -3.25565818622400915405e-01

abbrev pub PS2 : Float
PS2 = literal 0x3FC9C155_0E884455  -- 2.01212532134862925881e-01

abbrev pub PS3 : Float
PS3 = literal 0xBFA48228_B5688F3B  -- -4.00555345006794114027e-02

abbrev pub PS4 : Float
PS4 = literal 0x3F49EFE0_7501B288  -- 7.91534994289814532176e-04

abbrev pub PS5 : Float
PS5 = literal 0x3F023DE1_0DFDF709  -- 3.47933107596021167570e-05

abbrev pub QS1 : Float
QS1 = literal 0xC0033A27_1C8A2D4B  -- -2.40339491173441421878e+00

abbrev pub QS2 : Float
QS2 = literal 0x40002AE5_9C598AC8  -- 2.02094576023350569471e+00

abbrev pub QS3 : Float
QS3 = literal 0xBFE6066C_1B8D0159  -- -6.88283971605453293030e-01

abbrev pub QS4 : Float
QS4 = literal 0x3FB3B8C5_B12E9282  -- 7.70381505559019352791e-02

-- x1p_120f, which is 2^-120
abbrev pub tiny : Float
tiny = literal 0x38700000_00000000

-- the ratio r of two polynomials
abbrev pub ratio : Float → Float
ratio z =
    let p = z *ᶠ (PS0 +ᶠ z *ᶠ (PS1 +ᶠ z *ᶠ (PS2 +ᶠ z *ᶠ (PS3 +ᶠ z *ᶠ (PS4 +ᶠ z *ᶠ PS5))))) in
    let q = one +ᶠ z *ᶠ (QS1 +ᶠ z *ᶠ (QS2 +ᶠ z *ᶠ (QS3 +ᶠ z *ᶠ QS4))) in
    p /ᶠ q

-- at 1 and at -1
abbrev pub at_one : Float → Float
at_one x = if eqb (sign x) 0 then zero else two *ᶠ PIO2_HI +ᶠ tiny

-- 1 or more in magnitude, or a NaN: beyond 1 a NaN
unfoldable pub acos_far : Float → Float
acos_far x = if eqb (size x) 0x3ff00000_00000000 then at_one x else zero /ᶠ (x -ᶠ x)

-- below 1/2 in magnitude; up to 2^-57 a right angle
unfoldable pub acos_near : ℕ → Float → Float
acos_near ix x =
    if leb ix 0x3c600000 then PIO2_HI +ᶠ tiny
    else PIO2_HI -ᶠ (x -ᶠ (PIO2_LO -ᶠ x *ᶠ ratio (x *ᶠ x)))

-- from -1 to -1/2
abbrev pub acos_below : Float → Float
acos_below x =
    let z = (one +ᶠ x) *ᶠ half in
    let s = sqrt z in
    let w = ratio z *ᶠ s -ᶠ PIO2_LO in
    two *ᶠ (PIO2_HI -ᶠ (s +ᶠ w))

-- from 1/2 to 1
abbrev pub acos_above : Float → Float
acos_above x =
    let z = (one -ᶠ x) *ᶠ half in
    let s = sqrt z in
    let df = upper s in
    let c = (z -ᶠ df *ᶠ df) /ᶠ (s +ᶠ df) in
    let w = ratio z *ᶠ s +ᶠ c in
    two *ᶠ (df +ᶠ w)
