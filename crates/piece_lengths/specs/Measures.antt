-- `Rolled::measure`: a piece's radius, how far it turns, and its length.
use Rattle.std.specs.Prelude.{ℕ, ◌+◌, ◌≤◌, ◌≡◌, Float, Result}
use Rattle.checked.specs.Checked.{Checked, answered, ◌>>=◌, given, finite, num, ◌⊕◌, ◌⊖◌, ◌⊗◌, ◌⊘◌}
use Rattle.checked.specs.Numbers.{literal, float, zero}
use Rattle.checked.specs.Told.{told}
use Rattle.checked.specs.declared.Refusal.{Refusal}
use Rattle.float_bits.specs.FloatBits.{fabs}
use Rattle.libm.specs.Roots.{hypot}
use Rattle.checked.specs.Loops.{fold_c}
use Rattle.vectors.specs.declared.Vec2.{Vec2}
use Rattle.vectors.specs.Vectors.{plane}
use Rattle.waves.specs.declared.Wave.{Wave}
use Rattle.profile_arcs.specs.declared.ProfileArc.{ProfileArc}
use Rattle.profile_arcs.specs.Profiles.{between_c, turn_c}
use Rattle.piece_curves.specs.declared.meet_curves.MeetCurve.{MeetCurve}
use Rattle.piece_curves.specs.declared.meet_curves.Place.{Place}
use Rattle.piece_curves.specs.declared.CurveKind.{CurveKind}
use Rattle.piece_curves.specs.declared.CurveKind.TheVariants as way
use Rattle.piece_curves.specs.declared.PieceCurve.{PieceCurve}
use Rattle.piece_curves.specs.PieceCurves.{curve_by}
use Rattle.piece_curves.specs.Points.{at_c}
use Rattle.piece_lengths.specs.declared.measures.Measure.{Measure}

-- how far b is from a
unfoldable pub distance_c : Vec2 → Vec2 → Checked Float
distance_c a b = do
  x ← num b.x ⊖ num a.x
  y ← num b.y ⊖ num a.y
  finite (hypot x y)

-- ---- a trace, as 32 chords between 33 places
abbrev pub CHORDS : ℕ
CHORDS = 32

abbrev pub PLACES : ℕ
PLACES = 33

-- the same as a float
abbrev pub steps : Float
steps = literal 0x4040_0000_0000_0000

-- the point after k chords, and its derivative
unfoldable pub place_c : PieceCurve → ℕ → Checked Place
place_c r k = do
  t ← num (float k) ⊘ num steps
  at_c r t

-- what is met by calls that give these places
abbrev pub IsPlace : (ℕ → Result Place Refusal → Type 0) → PieceCurve → Type 0
IsPlace post r = (k : ℕ) (place : Result Place Refusal) → k ≤ CHORDS → post k place → told place ≡ answered (place_c r k)

-- all of them, which come before the first chord
unfoldable pub places_c : PieceCurve → Checked Place
places_c r = fold_c PLACES (λ k p. place_c r k) (place_c r 0).value

-- a length and the chord from a to b
unfoldable pub longer_c : Float → Vec2 → Vec2 → Checked Float
longer_c s a b = num s ⊕ distance_c a b

-- a turn and that from the direction u to v
unfoldable pub further_c : Float → Vec2 → Vec2 → Checked Float
further_c s u v = do
  a ← between_c u v
  num s ⊕ num (fabs a)

-- the length of all chords
unfoldable pub length_c : PieceCurve → Checked Float
length_c r = fold_c CHORDS (λ k s. longer_c s (place_c r k).value.p (place_c r (k + 1)).value.p) zero

-- how far the direction turns along them
unfoldable pub turned_c : PieceCurve → Checked Float
turned_c r = fold_c CHORDS (λ k s. further_c s (place_c r k).value.d (place_c r (k + 1)).value.d) zero

-- both, after all places
unfoldable pub traced_c : PieceCurve → Checked Measure
traced_c r = do
  p ← places_c r
  length ← length_c r
  turn ← turned_c r
  given (record { radius = zero; turn = turn; length = length })

-- the run along a wave, and that along a meet: its ends and neutral radius are those of the course, and no others are read
abbrev pub wave_run : Vec2 → Vec2 → Float → Wave → PieceCurve
wave_run from to n w = curve_by from to n (way.Wave w)

abbrev pub followed : MeetCurve → PieceCurve
followed c = curve_by (plane zero zero) (plane zero zero) zero (way.Meet c)

-- ---- a segment, and an arc
unfoldable pub segment_c : Vec2 → Vec2 → Checked Measure
segment_c from to = do
  length ← distance_c from to
  given (record { radius = zero; turn = zero; length = length })

-- of an arc, whose turn times its radius is its length
unfoldable pub arc_c : ProfileArc → Vec2 → Vec2 → Checked Measure
arc_c a from to = do
  rho ← distance_c a.center from
  t ← turn_c a from to
  length ← num rho ⊗ num (fabs t)
  given (record { radius = rho; turn = fabs t; length = length })

-- the measure, where the way is known
abbrev pub measure_by : CurveKind → PieceCurve → Checked Measure
measure_by way.Straight r = segment_c r.ends.from r.ends.to
measure_by (way.Arc a) r = arc_c a r.ends.from r.ends.to
measure_by (way.Wave w) r = traced_c r
measure_by (way.Meet c) r = traced_c r

-- `Rolled::measure`
unfoldable pub measure_c : PieceCurve → Checked Measure
measure_c r = measure_by r.way r
