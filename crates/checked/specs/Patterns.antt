-- Bit patterns of binary64. Every NaN has the pattern 0x7ff80000_00000000.
use Rattle.std.specs.Prelude.{ℕ, ◌*◌, ◌/◌, ◌%◌, ◌^◌, Float}
use Rattle.std.specs.Float.{binary64}
use Rattle.std.specs.Float.Ieee.{of_bits, to_bits}

-- the pattern of a number
abbrev pub bits : Float → ℕ
bits x = to_bits binary64 x

-- the number of a pattern
abbrev pub of_pattern : ℕ → Float
of_pattern b = of_bits binary64 b

-- the high word of the pattern, without the sign
abbrev pub high_word : Float → ℕ
high_word x = bits x / 2 ^ 32 % 2 ^ 31

-- the number with the low word of its pattern cleared
abbrev pub upper : Float → Float
upper x = of_pattern (bits x / 2 ^ 32 * 2 ^ 32)
