-- Root, ceiling and rounding to a whole number, over computations, as the operators of `checked`
-- are.
use Rattle.std.specs.Prelude.{Float}
use Rattle.std.specs.Float.{binary64}
use Rattle.checked.specs.Checked.{Checked, ◌>>=◌, finite}
use Rattle.rounding.specs.Whole.{ceil, round_away}
use Rattle.rounding.specs.Root.{sqrt}

-- the square root
abbrev pub sqrt_c : Checked Float → Checked Float
sqrt_c m = do
  x ← m
  finite (sqrt binary64 x)

-- the least whole number that is not below
abbrev pub ceil_c : Checked Float → Checked Float
ceil_c m = do
  x ← m
  finite (ceil binary64 x)

-- the whole number nearest, halves away from zero
abbrev pub round_c : Checked Float → Checked Float
round_c m = do
  x ← m
  finite (round_away binary64 x)
