-- How to tell a full circle. A turn counterclockwise is 2π exactly where the arctangent that it
-- comes from lies in [-2^-51, 0], and one clockwise is -2π exactly where it lies in [0, 2^-51]:
-- such an end lies behind the start by at most 2^-51, about 4.4 / 10^16, and beside 2π that is lost
-- in rounding. Any other end is told from the start. Assumes nothing.
-- Proved in proofs/FullCircles.antt.
use Rattle.std.specs.Prelude.{Bool, ◌&&◌, Float}
use Rattle.std.specs.Float.Ieee.{neg, le}
use Rattle.checked.specs.Numbers.{literal, zero}
use Rattle.vectors.specs.declared.Vec2.{Vec2}
use Rattle.vectors.specs.declared.Vec3.{Vec3}
use Rattle.vectors.specs.Vectors.{minus_c}
use Rattle.libm.specs.Atan2.{atan2}
use Rattle.profile_arcs.specs.declared.ProfileArc.{ProfileArc}
use Rattle.profile_arcs.specs.Profiles.{apart_c, between_c}
use Rattle.arcs.specs.declared.Arc.{Arc}
use Rattle.arcs.specs.SweepLaws.{rise, run}

-- 2^-51
abbrev pub lost : Float
lost = literal 0x3cc0_0000_0000_0000

-- an angle behind the start, or ahead of it, that is lost beside 2π
abbrev pub is_lost_behind : Float → Bool
is_lost_behind t = le (neg lost) t && le t zero

abbrev pub is_lost_ahead : Float → Bool
is_lost_ahead t = le zero t && le t lost

-- ---- the two entries

-- the arctangent that a sweep comes from
abbrev pub sweep_angle : Arc → Vec3 → Vec3 → Float
sweep_angle arc from to = let u = (minus_c from arc.center).value in atan2 (rise arc.center arc.axis u to) (run arc.center u to)

-- the arctangent that a turn comes from
abbrev pub turn_angle : ProfileArc → Vec2 → Vec2 → Float
turn_angle arc a b = (between_c (apart_c arc.center a).value (apart_c arc.center b).value).value
