-- Values of the definitions, each checked by computing it.
use Rattle.std.specs.Prelude.{◌≡◌, refl, true, false, pos, negsuc}
use Rattle.std.specs.Float.{nan, inf, fin, binary64}
use Rattle.rounding.specs.Whole.{ceil, round_away}
use Rattle.rounding.specs.Root.{sqrt}

sqrt_25 : sqrt binary64 (fin false 25 (pos 0)) ≡ fin false 5 (pos 0)
unfolding sqrt
sqrt_25 = refl

sqrt_quarter : sqrt binary64 (fin false 1 (negsuc 1)) ≡ fin false 1 (negsuc 0)
unfolding sqrt
sqrt_quarter = refl

sqrt_2 : sqrt binary64 (fin false 1 (pos 1)) ≡ fin false 6369051672525773 (negsuc 51)
unfolding sqrt
sqrt_2 = refl

-- the least value above zero, 2 ^ -1074, and the largest finite one
sqrt_least : sqrt binary64 (fin false 1 (negsuc 1073)) ≡ fin false 1 (negsuc 536)
unfolding sqrt
sqrt_least = refl

sqrt_most : sqrt binary64 (fin false 9007199254740991 (pos 971)) ≡ fin false 9007199254740991 (pos 459)
unfolding sqrt
sqrt_most = refl

-- below zero there is no root, and a zero keeps its sign
sqrt_of_minus_one : sqrt binary64 (fin true 1 (pos 0)) ≡ nan
unfolding sqrt
sqrt_of_minus_one = refl

sqrt_of_minus_zero : sqrt binary64 (fin true 0 (pos 0)) ≡ fin true 0 (pos 0)
unfolding sqrt
sqrt_of_minus_zero = refl

sqrt_of_infinity : sqrt binary64 (inf false) ≡ inf false
unfolding sqrt
sqrt_of_infinity = refl

sqrt_of_minus_infinity : sqrt binary64 (inf true) ≡ nan
unfolding sqrt
sqrt_of_minus_infinity = refl

sqrt_of_nan : sqrt binary64 (nan) ≡ nan
unfolding sqrt
sqrt_of_nan = refl

-- 1.25, -1.25, -0.5 and the least value above zero
ceil_above : ceil binary64 (fin false 5 (negsuc 1)) ≡ fin false 1 (pos 1)
unfolding ceil
ceil_above = refl

ceil_below : ceil binary64 (fin true 5 (negsuc 1)) ≡ fin true 1 (pos 0)
unfolding ceil
ceil_below = refl

ceil_of_minus_half : ceil binary64 (fin true 1 (negsuc 0)) ≡ fin true 0 (pos 0)
unfolding ceil
ceil_of_minus_half = refl

ceil_of_least : ceil binary64 (fin false 1 (negsuc 1073)) ≡ fin false 1 (pos 0)
unfolding ceil
ceil_of_least = refl

-- 2 ^ 52 - 1/2 is the last value with a fraction
ceil_under_2_52 : ceil binary64 (fin false 9007199254740991 (negsuc 0)) ≡ fin false 1 (pos 52)
unfolding ceil
ceil_under_2_52 = refl

ceil_of_2_52 : ceil binary64 (fin false 1 (pos 52)) ≡ fin false 1 (pos 52)
unfolding ceil
ceil_of_2_52 = refl

ceil_past_2_52 : ceil binary64 (fin false 4503599627370497 (pos 0)) ≡ fin false 4503599627370497 (pos 0)
unfolding ceil
ceil_past_2_52 = refl

ceil_of_most : ceil binary64 (fin false 9007199254740991 (pos 971)) ≡ fin false 9007199254740991 (pos 971)
unfolding ceil
ceil_of_most = refl

ceil_of_zero : ceil binary64 (fin false 0 (pos 0)) ≡ fin false 0 (pos 0)
unfolding ceil
ceil_of_zero = refl

ceil_of_minus_zero : ceil binary64 (fin true 0 (pos 0)) ≡ fin true 0 (pos 0)
unfolding ceil
ceil_of_minus_zero = refl

ceil_of_infinity : ceil binary64 (inf false) ≡ inf false
unfolding ceil
ceil_of_infinity = refl

ceil_of_minus_infinity : ceil binary64 (inf true) ≡ inf true
unfolding ceil
ceil_of_minus_infinity = refl

ceil_of_nan : ceil binary64 (nan) ≡ nan
unfolding ceil
ceil_of_nan = refl

-- halves: 0.5, 2.5 and -2.5
round_half : round_away binary64 (fin false 1 (negsuc 0)) ≡ fin false 1 (pos 0)
unfolding round_away
round_half = refl

round_two_and_half : round_away binary64 (fin false 5 (negsuc 0)) ≡ fin false 3 (pos 0)
unfolding round_away
round_two_and_half = refl

round_minus_two_and_half : round_away binary64 (fin true 5 (negsuc 0)) ≡ fin true 3 (pos 0)
unfolding round_away
round_minus_two_and_half = refl

-- the value next below a half; a half added to it would round to 1
round_under_half : round_away binary64 (fin false 9007199254740991 (negsuc 53)) ≡ fin false 0 (pos 0)
unfolding round_away
round_under_half = refl

round_minus_quarter : round_away binary64 (fin true 1 (negsuc 1)) ≡ fin true 0 (pos 0)
unfolding round_away
round_minus_quarter = refl

round_under_2_52 : round_away binary64 (fin false 9007199254740991 (negsuc 0)) ≡ fin false 1 (pos 52)
unfolding round_away
round_under_2_52 = refl

round_of_2_52 : round_away binary64 (fin false 1 (pos 52)) ≡ fin false 1 (pos 52)
unfolding round_away
round_of_2_52 = refl

round_past_2_52 : round_away binary64 (fin true 4503599627370497 (pos 0)) ≡ fin true 4503599627370497 (pos 0)
unfolding round_away
round_past_2_52 = refl

round_of_most : round_away binary64 (fin false 9007199254740991 (pos 971)) ≡ fin false 9007199254740991 (pos 971)
unfolding round_away
round_of_most = refl

round_of_minus_zero : round_away binary64 (fin true 0 (pos 0)) ≡ fin true 0 (pos 0)
unfolding round_away
round_of_minus_zero = refl

round_of_infinity : round_away binary64 (inf false) ≡ inf false
unfolding round_away
round_of_infinity = refl

round_of_minus_infinity : round_away binary64 (inf true) ≡ inf true
unfolding round_away
round_of_minus_infinity = refl

round_of_nan : round_away binary64 (nan) ≡ nan
unfolding round_away
round_of_nan = refl
