-- The angle of a point by libm 0.2.1, operation by operation: atan2.rs, with its names for
-- constants and variables, over the arctangent (`atan`). Definitions only.
-- Method: the arctangent of |y/x|, then the quadrant by the signs; where the quotient is too large or too small to
-- matter, the angle is known without it.
use Rattle.std.specs.Prelude.{ℕ, ◌+◌, ◌%◌, ◌*◌, ◌^◌, Bool, ◌&&◌, ◌||◌, ltb, eqb, Float, if◌then◌else◌}
use Rattle.std.specs.Float.Ieee.{neg, is_nan}
use Rattle.checked.specs.Patterns.{bits, high_word}
use Rattle.checked.specs.Numbers.{zero, two, three, four, literal, pi}
use Rattle.float_bits.specs.FloatBits.{◌+ᶠ◌, ◌-ᶠ◌, ◌*ᶠ◌, ◌/ᶠ◌, size, sign, choose, fabs}
use Rattle.libm.specs.Atan.{atan}

-- what π rounded lacks of the true one
abbrev pub PI_LO : Float
PI_LO = literal 0x3CA1A626_33145C07  -- 1.2246467991473531772E-16

-- x is 1
unfoldable pub is_one : Float → Bool
is_one x = eqb (bits x) 0x3ff00000_00000000

-- y is 0
abbrev pub at_zero_y : ℕ → Float → Float
at_zero_y m y = choose m y y pi (neg pi)

-- x is 0, or y/x is above 2^64 in magnitude: a quarter turn by the sign of y, the lowest bit of m
abbrev pub quarter_turn : ℕ → Float
quarter_turn m = if eqb (m % 2) 0 then pi /ᶠ two else neg pi /ᶠ two

-- x and y are infinite
abbrev pub both_infinite : ℕ → Float
both_infinite m = choose m (pi /ᶠ four) (neg pi /ᶠ four) (three *ᶠ pi /ᶠ four) (neg three *ᶠ pi /ᶠ four)

-- only x is infinite
abbrev pub infinite_x : ℕ → Float
infinite_x m = choose m zero (neg zero) pi (neg pi)

-- x is infinite
abbrev pub at_infinite_x : ℕ → ℕ → Float
at_infinite_x m iy = if eqb iy 0x7ff00000 then both_infinite m else infinite_x m

-- x is below 0, and y/x below 2^-64 in magnitude. The sums of words do not wrap, here and in
-- `too_steep`: a word is below 2^31.
abbrev pub too_flat : Float → Float → Bool
too_flat y x = eqb (sign x) 1 && ltb (high_word y + 64 * 2 ^ 20) (high_word x)

-- z: the arctangent of |y/x|
unfoldable pub ratio_angle : Float → Float → Float
ratio_angle y x = if too_flat y x then zero else atan (fabs (y /ᶠ x))

-- the angle that z stands for, by the signs in m
abbrev pub in_quadrant : ℕ → Float → Float
in_quadrant m z = choose m z (neg z) (pi -ᶠ (z -ᶠ PI_LO)) ((z -ᶠ PI_LO) -ᶠ pi)

-- y/x is above 2^64 in magnitude, or y is infinite
abbrev pub too_steep : ℕ → ℕ → Bool
too_steep iy ix = ltb (ix + 64 * 2 ^ 20) iy || eqb iy 0x7ff00000

-- the angle of the point (x, y), where neither is a NaN; m is twice the sign of x, and the sign of
-- y
unfoldable pub angle : Float → Float → Float
angle y x =
    let ix = high_word x in
    let iy = high_word y in
    let m = 2 * sign x + sign y in
    if is_one x then atan y
    else if eqb (size y) 0 then at_zero_y m y
    else if eqb (size x) 0 then quarter_turn m
    else if eqb ix 0x7ff00000 then at_infinite_x m iy
    else if too_steep iy ix then quarter_turn m
    else in_quadrant m (ratio_angle y x)

-- the angle of the point (x, y)
unfoldable pub atan2 : Float → Float → Float
atan2 y x = if is_nan x || is_nan y then x +ᶠ y else angle y x
