-- The angle of a point with finite coordinates lies in [−π, π], and so is finite. Assumes nothing.
-- Proved in proofs/Quadrants.antt.
use Rattle.std.specs.Prelude.{Float}
use Rattle.std.specs.Float.Ieee.{neg}
use Rattle.checked.specs.Numbers.{pi}
use Rattle.float_bounds.specs.Intervals.{In}

-- [−π, π], π rounded
abbrev pub Angle : Float → Type 0
Angle v = In (neg pi) pi v
