-- Waves, meets and traces as arrays of numbers. A tag says which of the numbers are read.
use Rattle.std.specs.Prelude.{ℕ, ◌+◌, Bool, cond, ◌&&◌, List, [], ◌∷◌, eqb, leb, get_or, Float, Option, Some, None}
use Rattle.std.specs.Float.{nan}
use Rattle.checked.specs.Checked.{Due, due, refused}
use Rattle.meets.specs.declared.generatrix.Jet as reaches
use Rattle.waves.specs.declared.Wave.{Wave}
use Rattle.waves.specs.declared.values.Jet.{Jet}
use Rattle.waves.specs.declared.turning_points.Span.{Span}
use Rattle.meets.specs.declared.Angles.{Angles}
use Rattle.meets.specs.declared.Meet.{Meet}
use Rattle.traces.specs.declared.Trace.{Trace}
use Rattle.traces.specs.declared.Trace.TheVariants as trace
use Rattle.c_arrays.specs.Records.{vec3_at, NONE}

-- ---- records from arrays, from place k on
-- a, b, c
abbrev pub wave_at : List Float → ℕ → Wave
wave_at l k = record { a = get_or l k nan; b = get_or l (k + 1) nan; c = get_or l (k + 2) nan }

abbrev pub wave : List Float → Wave
wave l = wave_at l 0

-- the tags of a meet: 0 without `turn`, 1 with it
unfoldable pub is_turn : ℕ → Bool
is_turn tag = leb tag 1

-- the two angles of `turn` count where the tag is not 0
abbrev pub turn_of : ℕ → Float → Float → Option Angles
turn_of tag from to = cond (eqb tag 0) None (Some (record { from = from; to = to }))

-- origin, axis, radius, own, the two angles
abbrev pub meet_at : List Float → ℕ → ℕ → Meet
meet_at l k tag = record {
  origin = vec3_at l k;
  axis = vec3_at l (k + 3);
  radius = get_or l (k + 6) nan;
  own = get_or l (k + 7) nan;
  turn = turn_of tag (get_or l (k + 8) nan) (get_or l (k + 9) nan);
}

abbrev pub meet : List Float → ℕ → Meet
meet l tag = meet_at l 0 tag

-- the tags of a trace: 1 a wave, 2 a meet without `turn`, 3 a meet with it
unfoldable pub is_trace : ℕ → Bool
is_trace kind = leb 1 kind && leb kind 3

abbrev pub trace_at : List Float → ℕ → ℕ → Trace
trace_at l k kind = cond (eqb kind 1) (trace.Wave (wave_at l k)) (cond (eqb kind 2) (trace.Meet (meet_at l k 0)) (trace.Meet (meet_at l k 1)))

abbrev pub trace_of : List Float → ℕ → Trace
trace_of l kind = trace_at l 0 kind

-- ---- results as numbers
-- v and its two derivatives
abbrev pub of_jet : Jet → List Float
of_jet j = j.v ∷ j.slope ∷ j.bend ∷ []

-- the least and the greatest v
abbrev pub of_span : Span → List Float
of_span s = s.low ∷ s.high ∷ []

-- the point and its two derivatives
abbrev pub of_points : reaches.Jet → List Float
of_points j = j.q.x ∷ j.q.y ∷ j.q.z ∷ j.q1.x ∷ j.q1.y ∷ j.q1.z ∷ j.q2.x ∷ j.q2.y ∷ j.q2.z ∷ []

-- none is an answer with a number of its own, and writes nothing
unfoldable pub some_due : {A : Type 0} → Due (Option A) → Due A
some_due (due (Some a)) = due a
some_due (due None) = refused NONE
some_due (refused n) = refused n
