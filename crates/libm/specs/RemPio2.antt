-- rem_pio2.rs of libm 0.2.1, operation by operation, with its names for constants and variables:
-- what is left of an angle when n quarter turns are taken off, as y0 + y1. Definitions only. It is
-- due at angles of at most 1,048,576 in magnitude, where it never comes to its case of large angles
-- (`never_large` of specs/Laws.antt).
-- Method: the nearest whole number of quarter turns is taken off with π/2 in parts of 33 bits, so that each product is
-- exact; where most bits cancel, the next part is taken too.
use Rattle.std.specs.Prelude.{ℕ, ◌-◌, ◌/◌, ◌%◌, ◌^◌, ℤ, pos, negsuc, leb, ltb, eqb, Float, if◌then◌else◌}
use Rattle.std.specs.Float.Ieee.{to_signed}
use Rattle.checked.specs.Patterns.{high_word}
use Rattle.checked.specs.Numbers.{two, three, four, literal}
use Rattle.float_bits.specs.FloatBits.{◌+ᶠ◌, ◌-ᶠ◌, ◌*ᶠ◌, exponent, sign}
use Rattle.libm.specs.declared.rem_pio2.Rest.{Rest}

-- 1.5 / EPS, which is 1.5 times 2^52
abbrev pub TO_INT : Float
TO_INT = literal 0x43380000_00000000  -- 6755399441055744.0

-- 2/π
abbrev pub INV_PIO2 : Float
INV_PIO2 = literal 0x3FE45F30_6DC9C883  -- 6.36619772367581382433e-01

-- π/2 in three parts of 33 bits, and after each what is then left
abbrev pub PIO2_1 : Float
PIO2_1 = literal 0x3FF921FB_54400000  -- 1.57079632673412561417e+00

abbrev pub PIO2_1T : Float
PIO2_1T = literal 0x3DD0B461_1A626331  -- 6.07710050650619224932e-11

abbrev pub PIO2_2 : Float
PIO2_2 = literal 0x3DD0B461_1A600000  -- 6.07710050630396597660e-11

abbrev pub PIO2_2T : Float
PIO2_2T = literal 0x3BA3198A_2E037073  -- 2.02226624879595063154e-21

abbrev pub PIO2_3 : Float
PIO2_3 = literal 0x3BA3198A_2E000000  -- 2.02226624871116645580e-21

abbrev pub PIO2_3T : Float
PIO2_3T = literal 0x397B839A_252049C1  -- 8.47842766036889956997e-32

-- The two lowest bits of n, which are all that a caller takes of it; `negsuc k` is -(k + 1).
abbrev pub quarter : ℤ → ℕ
quarter (pos n) = n % 4
quarter (negsuc n) = 3 - n % 4

-- r - w as y0 and y1
abbrev pub parted : ℕ → Float → Float → Rest
parted q r w =
    let y0 = r -ᶠ w in
    record { quarter = q; y0 = y0; y1 = (r -ᶠ y0) -ᶠ w }

-- x in quarter turns, 1.5 times 2^52 more: its fraction is rounded off
abbrev pub tmp : Float → Float
tmp x = x *ᶠ INV_PIO2 +ᶠ TO_INT

-- f_n: the number of quarter turns
abbrev pub f_n : Float → Float
f_n x = tmp x -ᶠ TO_INT

-- n: an i32 has 31 bits and a sign
abbrev pub turns : Float → ℕ
turns x = quarter (to_signed 31 (f_n x))

-- the third round of `medium`
abbrev pub third_round : ℕ → Float → Float → Rest
third_round q f_n t =
    let w = f_n *ᶠ PIO2_3 in
    let r = t -ᶠ w in
    parted q r (f_n *ᶠ PIO2_3T -ᶠ ((t -ᶠ r) -ᶠ w))

-- the second round, and whether a third is due; ex - ey is 0 here where ex is the smaller, and then
-- none is due either way
unfoldable pub second_round : ℕ → ℕ → Float → Float → Rest
second_round ex q f_n t =
    let w = f_n *ᶠ PIO2_2 in
    let r = t -ᶠ w in
    let w' = f_n *ᶠ PIO2_2T -ᶠ ((t -ᶠ r) -ᶠ w) in
    if ltb 49 (ex - exponent (r -ᶠ w')) then third_round q f_n r else parted q r w'

-- the first round, and whether a second is due
unfoldable pub medium : Float → ℕ → Rest
medium x ix =
    let ex = ix / 2 ^ 20 in
    let r = x -ᶠ f_n x *ᶠ PIO2_1 in
    let w = f_n x *ᶠ PIO2_1T in
    if ltb 16 (ex - exponent (r -ᶠ w)) then second_round ex (turns x) (f_n x) r else parted (turns x) r w

-- p + t, which are some quarter turns, taken off x
abbrev pub taken_off : ℕ → Float → Float → Float → Rest
taken_off q x p t =
    let z = x -ᶠ p in
    let y0 = z -ᶠ t in
    record { quarter = q; y0 = y0; y1 = (z -ᶠ y0) -ᶠ t }

-- added to it
abbrev pub added : ℕ → Float → Float → Float → Rest
added q x p t =
    let z = x +ᶠ p in
    let y0 = z +ᶠ t in
    record { quarter = q; y0 = y0; y1 = (z -ᶠ y0) +ᶠ t }

-- taken off an x above 0, of n quarter turns; added to one below it, of n'
abbrev pub one_round : ℤ → ℤ → Float → Float → Float → Rest
one_round n n' x p t = if eqb (sign x) 0 then taken_off (quarter n) x p t else added (quarter n') x p t

-- up to 5π/4, or nearly
unfoldable pub to_five : Float → ℕ → Rest
to_five x ix =
    if eqb (ix % 2 ^ 20) 0x921fb then medium x ix
    else if leb ix 0x4002d97c then one_round (pos 1) (negsuc 0) x PIO2_1 PIO2_1T
    else one_round (pos 2) (negsuc 1) x (two *ᶠ PIO2_1) (two *ᶠ PIO2_1T)

-- from there to 7π/4
abbrev pub to_seven : Float → ℕ → Rest
to_seven x ix =
    if eqb ix 0x4012d97c then medium x ix
    else one_round (pos 3) (negsuc 2) x (three *ᶠ PIO2_1) (three *ᶠ PIO2_1T)

-- from there to 9π/4
abbrev pub from_seven : Float → ℕ → Rest
from_seven x ix =
    if eqb ix 0x401921fb then medium x ix
    else one_round (pos 4) (negsuc 3) x (four *ᶠ PIO2_1) (four *ᶠ PIO2_1T)

-- from 5π/4 to 9π/4
unfoldable pub to_nine : Float → ℕ → Rest
to_nine x ix = if leb ix 0x4015fdbc then to_seven x ix else from_seven x ix

-- what is left of x, which is above π/4 in magnitude; ix is below 0x413921fb, where libm's case of
-- large angles begins
unfoldable pub rem_pio2 : Float → Rest
rem_pio2 x =
    let ix = high_word x in
    if leb ix 0x400f6a7a then to_five x ix
    else if leb ix 0x401c463b then to_nine x ix
    else medium x ix
