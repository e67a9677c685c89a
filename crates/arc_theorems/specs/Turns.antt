-- How far arcs turn: a turn counterclockwise is above 0 and at most 2π, one clockwise is below 0
-- and at least −2π, 2π as rounded. No number that passes the test of what is handed in is refused.
-- Assumes nothing.
-- Proved in proofs/Turns.antt.
use Rattle.std.specs.Prelude.{Bool, true, false, T, Float}
use Rattle.std.specs.Float.Ieee.{neg, le, lt}
use Rattle.checked.specs.Checked.{within}
use Rattle.checked.specs.Numbers.{zero, tau}
use Rattle.vectors.specs.declared.Vec3.{Vec3}
use Rattle.vectors.specs.Vectors.{within3}

-- above 0 and at most 2π, or below 0 and at least −2π
abbrev pub Turn : Bool → Float → Type 0
Turn true v = T (lt zero v) × T (le v tau)
Turn false v = T (le (neg tau) v) × T (lt v zero)

-- every number of an arc and of its ends passes the test of what is handed in
pub record Handed (c a : Vec3) (r : Float) (from to : Vec3) : Type 0 where
  pub center : T (within3 c)
  pub axis : T (within3 a)
  pub radius : T (within r)
  pub start : T (within3 from)
  pub end : T (within3 to)
