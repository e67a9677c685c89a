-- What an operation on floats makes of bounds of its operands. Read `Intervals` first: what a bound
-- is, and each operation's law; then `Powers`: the same for 2 ^ k, for any k; `HighWords` and
-- `Neighbours`: what a bit pattern says of a magnitude; `SquareRoots`. `Units` has f64 numbers as
-- whole numbers, and what it is to lie between two of them but for so many units, with `UnitsLaws`;
-- `RoundingErrors` how far rounding goes, for every format and exponent; `RoundedUnits` what sums and
-- products round, in units; `Grids` what rounding does not pass; `Interpolation` how far
-- f + (g - f) * t goes beyond f and g. `Comparing`, `Own` and `Unsigned` have what else is said of
-- single numbers, and `Parts` the arithmetic of fractions that all of it rests on.
pub mod Intervals
pub mod Powers
pub mod HighWords
pub mod Neighbours
pub mod SquareRoots
pub mod UnitsLaws
pub mod RoundedUnits
pub mod Grids
pub mod Interpolation
pub mod Comparing
pub mod Own
pub mod Unsigned
pub mod Parts
