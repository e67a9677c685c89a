-- What it is to be the whole number nearest to a root.
use Rattle.std.specs.Prelude.{ℕ, ◌+◌, ◌*◌, ◌≤◌, ◌<◌}

-- t is the whole number nearest to the root of n: t - 1/2 < root < t + 1/2, squared. The squares of
-- the two middles are no whole numbers, so there is no tie.
pub record NearRoot (n t : ℕ) : Type 0 where
  pub under : n ≤ t * t + t
  pub over : t * t < n + t
