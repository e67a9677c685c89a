-- Counts of chords or pieces: whole numbers from floats.
use Rattle.std.specs.Prelude.{ℕ, cond, Float}
use Rattle.std.specs.Float.{binary64}
use Rattle.std.specs.Float.Ieee.{le, to_unsigned}
use Rattle.checked.specs.Refusals.{COUNT_TOO_LARGE}
use Rattle.checked.specs.Checked.{Checked, ◌>>=◌, given, finite}
use Rattle.checked.specs.Numbers.{float}
use Rattle.rounding.specs.Whole.{ceil}
use Rattle.order.specs.Least.{greatest}

-- the most chords or pieces
abbrev pub MOST : ℕ
MOST = 4096

-- `x as usize`, or a refusal above the limit
unfoldable pub limited_c : Float → ℕ → Checked ℕ
limited_c x limit = cond (le x (float limit)) (given (to_unsigned 64 x)) (record { refusal = COUNT_TOO_LARGE; value = 0 })

-- `x.ceil().max(least) as usize`
unfoldable pub count_c : Float → Float → ℕ → Checked ℕ
count_c x least limit = do
  c ← finite (ceil binary64 x)
  limited_c (greatest c least) limit
