-- What is tried of a piece that is handed in.
use Rattle.traces.specs.declared.Trace.{Trace}
use Rattle.profile_arcs.specs.declared.ProfileArc.{ProfileArc}
use Rattle.std.specs.Prelude.{Bool, true, false, Some, None, Option}
use Rattle.vectors.specs.Vectors.{within2}
use Rattle.traces.specs.Traces.{trace_within}

-- all numbers of an arc and of a trace, where there is one, are within the limit
unfoldable pub arc_within : Option ProfileArc → Bool
arc_within None = true
arc_within (Some a) = within2 a.center

unfoldable pub followed_within : Option Trace → Bool
followed_within None = true
followed_within (Some t) = trace_within t

-- there is a trace
unfoldable pub is_traced : Option Trace → Bool
is_traced None = false
is_traced (Some t) = true

-- there is an arc and a trace
unfoldable pub both : Option ProfileArc → Option Trace → Bool
both None t = false
both (Some a) t = is_traced t
