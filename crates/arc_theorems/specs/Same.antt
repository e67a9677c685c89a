-- One point twice: an arc turns by 2π, for every arc and point. Assumes nothing.
-- Proved in proofs/Same.antt.
use Rattle.std.specs.Prelude.{Bool, cond, pos, Float}
use Rattle.std.specs.Float.{fin}
use Rattle.std.specs.Float.Ieee.{neg}
use Rattle.checked.specs.Numbers.{tau}

-- the zero of a sign
abbrev pub nought_of : Bool → Float
nought_of s = fin s 0 (pos 0)

-- ---- `ProfileArc::turn`

-- 2π counterclockwise, -2π clockwise
abbrev pub by_sense : Bool → Float
by_sense ccw = cond ccw tau (neg tau)
