-- The arctangent of a number is at most 3 in magnitude, and not below zero for a number with no
-- minus sign. Assumes nothing.
-- Proved in proofs/Arctangents.antt.
use Rattle.std.specs.Prelude.{◌≡◌, pos, Float}
use Rattle.std.proofs.Math.Bool.{false}
use Rattle.std.proofs.Math.Dec.{T}
use Rattle.std.specs.Float.{fin}
use Rattle.std.specs.Float.Ieee.{le}
use Rattle.float_bits.specs.FloatBits.{fabs}
use Rattle.float_bounds.specs.Parts.{nought}
use Rattle.float_bounds.specs.Intervals.{Upto}

-- 3
abbrev pub three : Float
three = fin false 3 (pos 0)

-- what is to be shown of a value for x
abbrev pub Turned : Float → Float → Type 0
Turned x v = Upto three v × (fabs x ≡ x → T (le nought v))
