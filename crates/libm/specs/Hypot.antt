-- libm 0.2.1's hypotenuse of two patterns, operation by operation: hypot.rs, with its names for
-- constants and variables. Definitions only. libm's square root is IEEE 754's.
-- Method: both numbers are scaled so that no square is lost, and each square is taken in two parts, by halves of 26 and
-- 27 bits, before the sum's root.
use Rattle.std.specs.Prelude.{ℕ, ◌+◌, ◌-◌, ◌/◌, ◌^◌, ◌||◌, ltb, eqb, Float, if◌then◌else◌}
use Rattle.std.specs.Float.{binary64}
use Rattle.checked.specs.Numbers.{one, two, literal}
use Rattle.rounding.specs.Root as Root
use Rattle.float_bits.specs.FloatBits.{◌+ᶠ◌, ◌-ᶠ◌, ◌*ᶠ◌}
use Rattle.libm.specs.declared.hypot.Square.{Square}

-- the square root
abbrev pub sqrt : Float → Float
sqrt x = Root.sqrt binary64 x

-- 2^27 + 1
abbrev pub SPLIT : Float
SPLIT = literal 0x41A00000_02000000  -- 134217729.0

-- 2^700, and 2^-700
abbrev pub x1p700 : Float
x1p700 = literal 0x6bb00000_00000000

abbrev pub x1p_700 : Float
x1p_700 = literal 0x14300000_00000000

-- the square of x in two parts
abbrev pub sq : Float → Square
sq x =
    let xc = x *ᶠ SPLIT in
    let xh = x -ᶠ xc +ᶠ xc in
    let xl = x -ᶠ xh in
    let hi = x *ᶠ x in
    record { hi = hi; lo = xh *ᶠ xh -ᶠ hi +ᶠ two *ᶠ xh *ᶠ xl +ᶠ xl *ᶠ xl }

-- the hypotenuse of x and y, times z
abbrev pub scaled : Float → Float → Float → Float
scaled z x y = z *ᶠ sqrt ((sq y).lo +ᶠ (sq x).lo +ᶠ (sq y).hi +ᶠ (sq x).hi)

-- the hypotenuse of the numbers of two patterns without signs, the first not the smaller
unfoldable pub hypot_ordered : ℕ → ℕ → Float
hypot_ordered uxi uyi =
    let ex = uxi / 2 ^ 52 in
    let ey = uyi / 2 ^ 52 in
    let x = literal uxi in
    let y = literal uyi in
    if eqb ey 0x7ff then y
    else if eqb ex 0x7ff || eqb uyi 0 then x
    else if ltb 64 (ex - ey) then x +ᶠ y
    else if ltb (0x3ff + 510) ex then scaled x1p700 (x *ᶠ x1p_700) (y *ᶠ x1p_700)
    else if ltb ey (0x3ff - 450) then scaled x1p_700 (x *ᶠ x1p700) (y *ᶠ x1p700)
    else scaled one x y

-- the greater of two patterns
unfoldable pub greater : ℕ → ℕ → ℕ
greater p q = if ltb p q then q else p

-- the lesser of two patterns
unfoldable pub lesser : ℕ → ℕ → ℕ
lesser p q = if ltb p q then p else q
