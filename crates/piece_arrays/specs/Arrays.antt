-- A piece of a development as an array of 26 numbers. Two tags say which of the numbers are used: the
-- others are not read, and stay what they were where a piece is put to the array.
use Rattle.traces.specs.declared.Trace.{Trace}
use Rattle.profile_arcs.specs.declared.ProfileArc.{ProfileArc}
use Rattle.std.specs.Prelude.{ℕ, Bool, cond, ◌&&◌, List, [], ◌∷◌, ◌++◌, eqb, leb, Float, Some, None, Option}
use Rattle.vectors.specs.declared.Vec2.{Vec2}
use Rattle.meets.specs.declared.Angles.{Angles}
use Rattle.meets.specs.declared.Meet.{Meet}
use Rattle.traces.specs.declared.Trace.TheVariants as trace
use Rattle.pieces.specs.declared.Rolled.{Rolled}
use Rattle.c_arrays.specs.Records.{vec2_at, over}
use Rattle.c_arrays.specs.DevelopmentRecords.{development_at, of_development}
use Rattle.c_arrays.specs.TraceRecords.{trace_at}

-- ---- where the parts stand behind the ten numbers of the development
abbrev pub FROM : ℕ
FROM = 10

abbrev pub TO : ℕ
TO = 12

-- the arc's centre
abbrev pub CENTRE : ℕ
CENTRE = 14

abbrev pub TRACE : ℕ
TRACE = 16

-- the two angles of a meet, the last numbers of a trace
abbrev pub ANGLES : ℕ
ANGLES = 24

-- ---- a piece from its array
-- the tags of a piece. Its arc: 0 none, 1 counterclockwise, 2 clockwise; its trace: 0 none, else a trace's own
unfoldable pub is_piece : ℕ → ℕ → Bool
is_piece arc trace = leb arc 2 && leb trace 3

-- the arc about a centre
abbrev pub piece_arc : ℕ → Vec2 → Option ProfileArc
piece_arc tag c = cond (eqb tag 0) None (Some (record { center = c; ccw = eqb tag 1 }))

abbrev pub piece_trace : List Float → ℕ → Option Trace
piece_trace l tag = cond (eqb tag 0) None (Some (trace_at l TRACE tag))

abbrev pub piece : List Float → ℕ → ℕ → Rolled
piece l arc trace = record {
  dev = development_at l 0;
  from = vec2_at l FROM;
  to = vec2_at l TO;
  arc = piece_arc arc (vec2_at l CENTRE);
  trace = piece_trace l trace;
}

-- ---- the tags of a piece
-- 0 none, 1 counterclockwise, 2 clockwise
unfoldable pub arc_tag : Option ProfileArc → ℕ
arc_tag None = 0
arc_tag (Some a) = cond a.ccw 1 2

-- 2 a meet without `turn`, 3 a meet with it
unfoldable pub turn_tag : Option Angles → ℕ
turn_tag None = 2
turn_tag (Some a) = 3

-- 0 none, 1 a wave, else a meet's
unfoldable pub trace_tag : Option Trace → ℕ
trace_tag None = 0
trace_tag (Some (trace.Wave w)) = 1
trace_tag (Some (trace.Meet m)) = turn_tag m.turn

abbrev pub tags_of : Rolled → List ℕ
tags_of p = arc_tag p.arc ∷ trace_tag p.trace ∷ []

-- ---- a piece's numbers
abbrev pub of_ends : Vec2 → Vec2 → List Float
of_ends from to = from.x ∷ from.y ∷ to.x ∷ to.y ∷ []

-- the arc's centre, where there is one
unfoldable pub of_centre : Option ProfileArc → List Float
of_centre None = []
of_centre (Some a) = a.center.x ∷ a.center.y ∷ []

-- the two angles, where there are two
unfoldable pub of_turn : Option Angles → List Float
of_turn None = []
of_turn (Some a) = a.from ∷ a.to ∷ []

-- of a meet: origin, axis, radius, own; then the two angles
abbrev pub of_cylinder : Meet → List Float
of_cylinder m = m.origin.x ∷ m.origin.y ∷ m.origin.z ∷ m.axis.x ∷ m.axis.y ∷ m.axis.z ∷ m.radius ∷ m.own ∷ []

unfoldable pub of_meet : Meet → List Float
of_meet m = of_cylinder m ++ of_turn m.turn

-- a wave's a, b, c, or a meet's numbers, where there is a trace
unfoldable pub of_trace : Option Trace → List Float
of_trace None = []
of_trace (Some (trace.Wave w)) = w.a ∷ w.b ∷ w.c ∷ []
of_trace (Some (trace.Meet m)) = of_meet m

-- each part at its place over what the array held
unfoldable pub with_piece : List Float → Rolled → List Float
with_piece l p = over (over (over (over l 0 (of_development p.dev)) FROM (of_ends p.from p.to)) CENTRE (of_centre p.arc)) TRACE (of_trace p.trace)
