-- Numbers that the formulas name. A literal of the code is the number of its bit pattern.
use Rattle.std.specs.Prelude.{ℕ, pos, Float}
use Rattle.std.specs.Float.{binary64}
use Rattle.std.specs.Float.Ieee.{of_bits, of_int}

-- the number of a bit pattern
abbrev pub literal : ℕ → Float
literal b = of_bits binary64 b

-- a whole number as an f64: `k as f64`
abbrev pub float : ℕ → Float
float k = of_int binary64 (pos k)

-- 0, 0.5, 1, 1.5, 2, 3, 4, 6
abbrev pub zero : Float
zero = literal 0

abbrev pub half : Float
half = literal 0x3fe0_0000_0000_0000

abbrev pub one : Float
one = literal 0x3ff0_0000_0000_0000

abbrev pub three_halves : Float
three_halves = literal 0x3ff8_0000_0000_0000

abbrev pub two : Float
two = literal 0x4000_0000_0000_0000

abbrev pub three : Float
three = literal 0x4008_0000_0000_0000

abbrev pub four : Float
four = literal 0x4010_0000_0000_0000

abbrev pub six : Float
six = literal 0x4018_0000_0000_0000

-- π rounded, 3.141592653589793
abbrev pub pi : Float
pi = literal 0x4009_21fb_5444_2d18

-- 2π rounded, 6.283185307179586
abbrev pub tau : Float
tau = literal 0x4019_21fb_5444_2d18

-- π/4 rounded, 0.7853981633974483
abbrev pub quarter_pi : Float
quarter_pi = literal 0x3fe9_21fb_5444_2d18
