-- The operators on f64, each rounded once, and what libm's functions read of a number's bit pattern
-- besides its high word. Definitions only.
use Rattle.std.specs.Prelude.{ℕ, ◌/◌, ◌%◌, ◌^◌, false, eqb, Float, if◌then◌else◌}
use Rattle.std.specs.Float.{nan, inf, fin, binary64}
use Rattle.std.specs.Float.Ieee.{add, sub, mul, div, neg}
use Rattle.checked.specs.Patterns.{bits}

infixl 6 ◌+ᶠ◌ ◌-ᶠ◌
infixl 7 ◌*ᶠ◌ ◌/ᶠ◌
-- the sum, the difference, the product and the quotient
abbrev pub ◌+ᶠ◌ : Float → Float → Float
◌+ᶠ◌ x y = add binary64 x y

abbrev pub ◌-ᶠ◌ : Float → Float → Float
◌-ᶠ◌ x y = sub binary64 x y

abbrev pub ◌*ᶠ◌ : Float → Float → Float
◌*ᶠ◌ x y = mul binary64 x y

abbrev pub ◌/ᶠ◌ : Float → Float → Float
◌/ᶠ◌ x y = div binary64 x y

-- ---- parts of a pattern

-- the pattern without its sign
abbrev pub size : Float → ℕ
size x = bits x % 2 ^ 63

-- the exponent's field
abbrev pub exponent : Float → ℕ
exponent x = bits x / 2 ^ 52 % 2 ^ 11

-- the sign's bit: 1 below zero and at -0
abbrev pub sign : Float → ℕ
sign x = bits x / 2 ^ 63

-- ---- by the sign and by cases

-- the number without its sign
unfoldable pub fabs : Float → Float
fabs nan = nan
fabs (inf s) = inf false
fabs (fin s m e) = fin false m e

-- z, or -z where s is not 0
unfoldable pub signed : ℕ → Float → Float
signed s z = if eqb s 0 then z else neg z

-- a, b, c or d, by the number m
unfoldable pub choose : ℕ → Float → Float → Float → Float → Float
choose m a b c d = if eqb m 0 then a else if eqb m 1 then b else if eqb m 2 then c else d
