-- Values of the definitions, which antt computes: the limit passes, the next number up does not, nor do a NaN and the infinities.
use Rattle.std.specs.Prelude.{◌≡◌, refl, Bool, true, false, List, [], ◌∷◌, map, Float}
use Rattle.std.specs.Float.{nan, inf, binary64}
use Rattle.std.specs.Float.Ieee.{le, neg, of_bits}
use Rattle.checked.specs.Checked.{within, limit}

-- 1048576, its negative, the neighbours of both away from 0, a NaN, the infinities, 0 and -0
numbers : List Float
numbers =
    limit
    ∷ neg limit
    ∷ of_bits binary64 0x4130_0000_0000_0001
    ∷ of_bits binary64 0xc130_0000_0000_0001
    ∷ nan
    ∷ inf false
    ∷ inf true
    ∷ of_bits binary64 0
    ∷ of_bits binary64 0x8000_0000_0000_0000
    ∷ []

outcomes : List Bool
outcomes = true ∷ true ∷ false ∷ false ∷ false ∷ false ∷ false ∷ true ∷ true ∷ []

numbers_within : map within numbers ≡ outcomes
unfolding numbers outcomes within le neg of_bits
numbers_within = refl
