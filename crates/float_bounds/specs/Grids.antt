-- Multiples of 2 ^ k units. A number of 2 ^ (52 + k) units or more is one (`multiple`). Each multiple up to 2 ^ 53 times 2 ^ k units is a number,
-- which rounding therefore does not pass (`grid_most`). Beyond that numbers lie twice as far apart: 2 ^ k units more are rounded back (`tie_most`).
-- Assumes nothing.
-- Proved in proofs/Grids.antt.
use Rattle.std.specs.Prelude.{◌≡◌, ℕ, ◌*◌, ◌^◌, Float}
use Rattle.float_bounds.specs.UnitsLaws.{gain, loss}

-- ---- a number of 2 ^ (52 + k) units or more
pub record Multiple (k : ℕ) (x : Float) : Type 0 where
  pub over : ℕ
  pub below : ℕ
  pub gains : gain x ≡ over * 2 ^ k
  pub loses : loss x ≡ below * 2 ^ k
