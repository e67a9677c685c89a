-- Angles turned about a centre.
use Rattle.std.specs.Prelude.{cond, Float}
use Rattle.std.specs.Float.Ieee.{le}
use Rattle.checked.specs.Checked.{Checked, ◌>>=◌, finite, num, ◌⊕◌, ◌⊖◌}
use Rattle.checked.specs.Numbers.{zero, tau}
use Rattle.libm.specs.Atan2.{atan2}

-- the angle of the direction (x, y), in [−π, π] (`atan2_range` of crates/libm_ranges)
abbrev pub atan2_c : Checked Float → Checked Float → Checked Float
atan2_c m n = do
  y ← m
  x ← n
  finite (atan2 y x)

-- the same of two numbers that are tried first
abbrev pub angle_c : Float → Float → Checked Float
angle_c y x = atan2_c (finite y) (finite x)

-- a turn counterclockwise, in (0, 2π] (`ahead_turn` of crates/arc_theorems): at or below 0 it gains 2π
unfoldable pub ahead_c : Float → Checked Float
ahead_c t = cond (le t zero) (num t ⊕ num tau) (num t)

-- a turn clockwise, in [−2π, 0) (`back_turn` of crates/arc_theorems): at or above 0 it loses 2π
unfoldable pub back_c : Float → Checked Float
back_c t = cond (le zero t) (num t ⊖ num tau) (num t)
