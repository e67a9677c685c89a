-- Arccosine and hypotenuse of libm 0.2.1: the tests of acos.rs over its cases (`acos`),
-- then hypot.rs, whose work is on the two patterns (`hypot`). Definitions only.
use Rattle.std.specs.Prelude.{leb, ltb, eqb, Float, if◌then◌else◌}
use Rattle.checked.specs.Patterns.{high_word}
use Rattle.float_bits.specs.FloatBits.{size, sign}
use Rattle.libm.specs.Acos.{acos_far, acos_near, acos_below, acos_above}
use Rattle.libm.specs.Hypot.{greater, lesser, hypot_ordered}

-- the angle whose cosine is x
unfoldable pub acos : Float → Float
acos x =
    let ix = high_word x in
    if leb 0x3ff00000 ix then acos_far x
    else if ltb ix 0x3fe00000 then acos_near ix x
    else if eqb (sign x) 0 then acos_above x
    else acos_below x

-- the hypotenuse of the sides x and y
unfoldable pub hypot : Float → Float → Float
hypot x y = hypot_ordered (greater (size x) (size y)) (lesser (size x) (size y))
