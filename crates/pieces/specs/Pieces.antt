-- A piece of a development: what it follows, and the piece run the other way.
use Rattle.std.specs.Prelude.{Float}
use Rattle.checked.specs.Checked.{Checked, ◌>>=◌}
use Rattle.vectors.specs.declared.Vec2.{Vec2}
use Rattle.vectors.specs.declared.Vec3.{Vec3}
use Rattle.piece_curves.specs.declared.Ends.{Ends}
use Rattle.piece_curves.specs.declared.PieceCurve.{PieceCurve}
use Rattle.piece_curves.specs.declared.meet_curves.Place.{Place}
use Rattle.piece_curves.specs.PieceCurves as runs
use Rattle.piece_curves.specs.Points as points
use Rattle.piece_lengths.specs.declared.measures.Measure.{Measure}
use Rattle.piece_lengths.specs.Measures as measures
use Rattle.piece_normals.specs.Normals as normals
use Rattle.pieces.specs.Reversals.{arc_back, trace_back}
use Rattle.pieces.specs.declared.Rolled.{Rolled}

-- where it begins and ends
abbrev pub ends_of : Rolled → Ends
ends_of p = record { from = p.from; to = p.to; neutral = p.dev.neutral }

-- ready to be followed
unfoldable pub run_c : Rolled → Checked PieceCurve
run_c p = runs.curve_c p.from p.to p.dev.neutral p.arc p.trace

-- the point at t, and its derivative
abbrev pub at_c : Rolled → Float → Checked Place
at_c p t = do
  r ← run_c p
  points.at_c r t

-- the radius, the turn and the length
abbrev pub measure_c : Rolled → Checked Measure
measure_c p = do
  r ← run_c p
  measures.measure_c r

-- ends exchanged, the arc's sense turned, the two angles of a hole exchanged; all else as it is
unfoldable pub back : Rolled → Rolled
back p = record { dev = p.dev; from = p.to; to = p.from; arc = arc_back p.arc; trace = trace_back p.trace }

-- the unit normal of the wall over the piece at q, r from the axis: left of its direction there
unfoldable pub normal_c : Rolled → Vec2 → Float → Checked Vec3
normal_c p q r = do
  d ← normals.direction_c p.arc p.trace p.from p.to p.dev.neutral q
  normals.normal_c p.dev.axis p.dev.start p.dev.neutral q d r
