-- Numbers by their units, as two naturals of which one is 0: `gain` above zero and `loss` below. The order and the limits of numbers in units, and
-- `Between` by them. Assumes nothing.
-- Proved in proofs/UnitsLaws.antt.
use Rattle.std.specs.Prelude.{◌≡◌, ℕ, ◌*◌, Float}
use Rattle.std.specs.Float.{nan, inf, fin}
use Rattle.float_bounds.specs.Parts.{plus, minus, above, under, den}
use Rattle.float_bounds.specs.Units.{scale, units_in}

-- ---- a number's units: `gain` of them above zero, or `loss` below
unfoldable pub gain : Float → ℕ
gain nan = 0
gain (inf s) = 0
gain (fin s m e) = plus s (units_in m e)

unfoldable pub loss : Float → ℕ
loss nan = 0
loss (inf s) = 0
loss (fin s m e) = minus s (units_in m e)

-- so its fraction is its units over those in 1
pub record Whole (x : Float) : Type 0 where
  pub over : gain x * den x ≡ above x * scale
  pub below : loss x * den x ≡ under x * scale
