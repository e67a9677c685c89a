-- What a piece follows, run the other way.
use Rattle.profile_arcs.specs.declared.ProfileArc.{ProfileArc}
use Rattle.std.specs.Prelude.{not, Some, None, Option}
use Rattle.meets.specs.declared.Angles.{Angles}
use Rattle.traces.specs.declared.Trace.{Trace}
use Rattle.traces.specs.declared.Trace.TheVariants as trace

-- the arc turns in the other sense
unfoldable pub arc_back : Option ProfileArc → Option ProfileArc
arc_back None = None
arc_back (Some a) = Some (record { center = a.center; ccw = not a.ccw })

-- the two angles of a hole change places
unfoldable pub turn_back : Option Angles → Option Angles
turn_back None = None
turn_back (Some a) = Some (record { from = a.to; to = a.from })

unfoldable pub curve_back : Trace → Trace
curve_back (trace.Wave w) = trace.Wave w
curve_back (trace.Meet m) = trace.Meet (record { origin = m.origin; axis = m.axis; radius = m.radius; own = m.own; turn = turn_back m.turn })

unfoldable pub trace_back : Option Trace → Option Trace
trace_back None = None
trace_back (Some t) = Some (curve_back t)
