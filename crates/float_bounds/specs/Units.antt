-- Numbers as whole numbers. Every finite f64 is a whole number of units of 2 ^ -1074, the smallest f64 above 0 (`scaled_exact` of
-- `UnitsLaws`), so that exact distances between f64 numbers are told in whole numbers.
use Rattle.std.specs.Prelude.{true, false, ℕ, ◌*◌, ◌/◌, ◌^◌, ℤ, pos, neg_ℤ, ◌+ℤ◌, ◌-ℤ◌, ◌≤ℤ◌, T, Float}
use Rattle.std.specs.Float.{nan, inf, fin, binary64}
use Rattle.std.specs.Float.Ieee.{up, down, fits}

-- an f64 number, as every number of a program is
abbrev pub F64 : Float → Type 0
F64 x = T (fits binary64 x)

-- the units in 1
unfoldable pub scale : ℕ
scale = 2 ^ 1074

-- the units in m * 2 ^ e, which is m * up e / down e
abbrev pub units_in : ℕ → ℤ → ℕ
units_in m e = m * up e * scale / down e

-- the units in x, a whole number; an infinity or a NaN has none
unfoldable pub scaled : Float → ℤ
scaled nan = pos 0
scaled (inf s) = pos 0
scaled (fin true m e) = neg_ℤ (pos (units_in m e))
scaled (fin false m e) = pos (units_in m e)

-- x lies from w units below `low` to w units above `high`
pub record Between (w : ℕ) (low x high : Float) : Type 0 where
  pub from : (scaled low -ℤ pos w) ≤ℤ scaled x
  pub to : scaled x ≤ℤ (scaled high +ℤ pos w)
