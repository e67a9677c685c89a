-- What rounds a difference, in units. f64 numbers, their sums and their products round differences of units (`own_rounds`, `sum_rounds`,
-- `product_rounds`); rounding keeps the order (`units_order`), and goes by half of 2 ^ k units at most (`units_near`). Assumes nothing.
-- Proved in proofs/RoundedUnits.antt.
use Rattle.std.specs.Prelude.{ℕ, ◌+◌, ◌*◌, ◌≤◌, T, Float}
use Rattle.checked.specs.Checked.{is_finite}
use Rattle.float_bounds.specs.Units.{F64}
use Rattle.float_bounds.specs.UnitsLaws.{gain, loss}

-- a finite f64 number
abbrev pub Finite : Float → Type 0
Finite x = F64 x × T (is_finite x)

-- ---- what rounds p - n units lies within half of E units of it
pub record Near (E : ℕ) (v : Float) (p n : ℕ) : Type 0 where
  pub high : (gain v + n) * 2 ≤ (loss v + p) * 2 + E
  pub low : (loss v + p) * 2 ≤ (gain v + n) * 2 + E
