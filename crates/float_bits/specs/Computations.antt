-- The magnitude, over computations, as the operators of `checked` are.
use Rattle.std.specs.Prelude.{Float}
use Rattle.checked.specs.Checked.{Checked, ◌>>=◌, finite}
use Rattle.float_bits.specs.FloatBits.{fabs}

-- `x.abs()`
abbrev pub abs_c : Checked Float → Checked Float
abs_c m = do
  x ← m
  finite (fabs x)
