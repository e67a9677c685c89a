-- The arctangent of libm 0.2.1, operation by operation: atan.rs, with its names for constants and
-- variables. Definitions only. Operations that libm makes only to raise a flag are left out.
-- Method: arctan x = arctan c + arctan((x − c) / (1 + c·x)) with c of 1/2, 1, 3/2 or infinity, whichever is near,
-- leaves an x of at most 7/16, for which an odd polynomial serves; arctan c is added in two parts.
use Rattle.std.specs.Prelude.{ℕ, leb, ltb, Float, if◌then◌else◌}
use Rattle.std.specs.Float.Ieee.{neg, is_nan}
use Rattle.checked.specs.Patterns.{high_word}
use Rattle.checked.specs.Numbers.{one, three_halves, two, literal}
use Rattle.float_bits.specs.FloatBits.{◌+ᶠ◌, ◌-ᶠ◌, ◌*ᶠ◌, ◌/ᶠ◌, sign, signed, fabs}
use Rattle.libm.specs.declared.atan.Reduced.{Reduced}

-- ATANHI and ATANLO: the arctangents of 1/2, 1, 3/2 and infinity, in two parts each
abbrev pub ATANHI0 : Float
ATANHI0 = literal 0x3FDDAC67_0561BB4F  -- 4.63647609000806093515e-01

abbrev pub ATANHI1 : Float
ATANHI1 = literal 0x3FE921FB_54442D18  -- 7.85398163397448278999e-01

abbrev pub ATANHI2 : Float
ATANHI2 = literal 0x3FEF730B_D281F69B  -- 9.82793723247329054082e-01

abbrev pub ATANHI3 : Float
ATANHI3 = literal 0x3FF921FB_54442D18  -- 1.57079632679489655800e+00

abbrev pub ATANLO0 : Float
ATANLO0 = literal 0x3C7A2B7F_222F65E2  -- 2.26987774529616870924e-17

abbrev pub ATANLO1 : Float
ATANLO1 = literal 0x3C81A626_33145C07  -- 3.06161699786838301793e-17

abbrev pub ATANLO2 : Float
ATANLO2 = literal 0x3C700788_7AF0CBBD  -- 1.39033110312309984516e-17

abbrev pub ATANLO3 : Float
ATANLO3 = literal 0x3C91A626_33145C07  -- 6.12323399573676603587e-17

-- AT: the coefficients of the series
abbrev pub AT0 : Float
AT0 = literal 0x3FD55555_5555550D  -- 3.33333333333329318027e-01

abbrev pub AT1 : Float
AT1 = literal 0xBFC99999_9998EBC4  -- -1.99999999998764832476e-01

abbrev pub AT2 : Float
AT2 = literal 0x3FC24924_920083FF  -- 1.42857142725034663711e-01

abbrev pub AT3 : Float
AT3 = literal 0xBFBC71C6_FE231671  -- -1.11111104054623557880e-01

abbrev pub AT4 : Float
AT4 = literal 0x3FB745CD_C54C206E  -- 9.09088713343650656196e-02

abbrev pub AT5 : Float
AT5 = literal 0xBFB3B0F2_AF749A6D  -- -7.69187620504482999495e-02

abbrev pub AT6 : Float
AT6 = literal 0x3FB10D66_A0D03D51  -- 6.66107313738753120669e-02

abbrev pub AT7 : Float
AT7 = literal 0xBFADDE2D_52DEFD9A  -- -5.83357013379057348645e-02

abbrev pub AT8 : Float
AT8 = literal 0x3FA97B4B_24760DEB  -- 4.97687799461593236017e-02

abbrev pub AT9 : Float
AT9 = literal 0xBFA2B444_2C6A6C2F  -- -3.65315727442169155270e-02

abbrev pub AT10 : Float
AT10 = literal 0x3F90AD3A_E322DA11  -- 1.62858201153657823623e-02

-- from 2^66 up, infinity and NaN: a quarter turn, or the NaN
abbrev pub atan_huge : Float → Float
atan_huge x = if is_nan x then x else signed (sign x) (ATANHI3 +ᶠ literal 0x03800000)

-- the new x, with ATANHI and ATANLO of its id: id 0, from 7/16 to 11/16
abbrev pub at_half : Float → Reduced
at_half x = record { x = (two *ᶠ x -ᶠ one) /ᶠ (two +ᶠ x); high = ATANHI0; low = ATANLO0 }

-- id 1, to 19/16
abbrev pub at_one : Float → Reduced
at_one x = record { x = (x -ᶠ one) /ᶠ (x +ᶠ one); high = ATANHI1; low = ATANLO1 }

-- id 2, to 39/16
abbrev pub at_three_halves : Float → Reduced
at_three_halves x = record { x = (x -ᶠ three_halves) /ᶠ (one +ᶠ three_halves *ᶠ x); high = ATANHI2; low = ATANLO2 }

-- id 3, to 2^66
abbrev pub at_infinity : Float → Reduced
at_infinity x = record { x = neg one /ᶠ x; high = ATANHI3; low = ATANLO3 }

-- below 19/16
abbrev pub reduced_near : ℕ → Float → Reduced
reduced_near ix x = if ltb ix 0x3fe60000 then at_half x else at_one x

-- from 19/16 up
abbrev pub reduced_far : ℕ → Float → Reduced
reduced_far ix x = if ltb ix 0x40038000 then at_three_halves x else at_infinity x

-- by the id of |x|, which the high word ix tells
unfoldable pub reduced : ℕ → Float → Reduced
reduced ix x = if ltb ix 0x3ff30000 then reduced_near ix x else reduced_far ix x

-- x times the sum of the series, its terms of even and of odd index apart
abbrev pub series : Float → Float
series x =
    let z = x *ᶠ x in
    let w = z *ᶠ z in
    let s1 = z *ᶠ (AT0 +ᶠ w *ᶠ (AT2 +ᶠ w *ᶠ (AT4 +ᶠ w *ᶠ (AT6 +ᶠ w *ᶠ (AT8 +ᶠ w *ᶠ AT10))))) in
    let s2 = w *ᶠ (AT1 +ᶠ w *ᶠ (AT3 +ᶠ w *ᶠ (AT5 +ᶠ w *ᶠ (AT7 +ᶠ w *ᶠ AT9)))) in
    x *ᶠ (s1 +ᶠ s2)

-- below 7/16: the id is -1, or below 2^-27 there is none
abbrev pub atan_small : ℕ → Float → Float
atan_small ix x = if ltb ix 0x3e400000 then x else x -ᶠ series x

-- from 7/16 up: the ids 0 to 3
abbrev pub folded : Reduced → Float
folded r = r.high -ᶠ (series r.x -ᶠ r.low -ᶠ r.x)

-- the arctangent of x
unfoldable pub atan : Float → Float
atan x =
    let ix = high_word x in
    if leb 0x44100000 ix then atan_huge x
    else if ltb ix 0x3fdc0000 then atan_small ix x
    else signed (sign x) (folded (reduced ix (fabs x)))
