-- What the computations on the way to a piece's points meet: no refusal, or one by the arithmetic, whose number is 8 or above. 1 to 7
-- are met by what is handed in or lent, and by nothing else. A law for each definition: what holds of its parts holds of it. Assumes
-- nothing.
use Rattle.traces.specs.declared.Trace.{Trace}
use Rattle.std.specs.Prelude.{ℕ, zero, suc, Bool, true, false, cond, ◌||◌, T, eqb, leb, Float, Option, Some, None}
use Rattle.checked.specs.Refusals.{ANGLE_TOO_LARGE, NOT_FINITE, COUNT_TOO_LARGE}
use Rattle.checked.specs.Checked.{Checked, first, nine, eight, is_finite, within}
use Rattle.checked.specs.Loops.{fold_c}
use Rattle.vectors.specs.declared.Vec2.{Vec2}
use Rattle.vectors.specs.Vectors.{plus_c, minus_c, times_c, cross_c, dot_c}
use Rattle.directions.specs.Directions.{length_c, over_length_c, across_c}
use Rattle.profile_arcs.specs.declared.ProfileArc.{ProfileArc}
use Rattle.profile_arcs.specs.Angles.{ahead_c, back_c}
use Rattle.profile_arcs.specs.Profiles.{apart_c, turn_c}
use Rattle.chord_counts.specs.Chords as chords
use Rattle.chord_counts.specs.Counts.{limited_c, count_c}
use Rattle.rows.specs.Rows.{up_to}
use Rattle.waves.specs.Values.{v_c, with_slope_c}
use Rattle.meets.specs.declared.quadratic.Pipe.{Pipe}
use Rattle.meets.specs.declared.quadratic.Intersection.{Intersection}
use Rattle.meets.specs.declared.Angles.{Angles}
use Rattle.meets.specs.declared.Meet.{Meet}
use Rattle.meets.specs.Quadratic.{own_c, other_c, lesser_c, intersection_c}
use Rattle.meets.specs.Generatrix as generatrix
use Rattle.meets.specs.Meets.{pipe_by, pipe_c}
use Rattle.developments.specs.Formulas as developments
use Rattle.traces.specs.declared.Trace.TheVariants as trace
use Rattle.piece_curves.specs.declared.meet_curves.MeetCurve.{MeetCurve}
use Rattle.piece_curves.specs.declared.CurveKind.{CurveKind}
use Rattle.piece_curves.specs.declared.CurveKind.TheVariants as way
use Rattle.piece_curves.specs.declared.PieceCurve.{PieceCurve}
use Rattle.piece_curves.specs.declared.space_points.Rolling.{Rolling}
use Rattle.piece_curves.specs.MeetCurves as meet_curves
use Rattle.piece_curves.specs.PieceCurves.{kind_c, curve_c}
use Rattle.piece_curves.specs.Points as points
use Rattle.piece_curves.specs.SpacePoints as space
use Rattle.piece_lengths.specs.Measures as measures
use Rattle.piece_lengths.specs.Counts as counts
use Rattle.piece_rows.specs.Inner.{inner_c}
use Rattle.pieces.specs.Pieces.{run_c}
use Rattle.curves.specs.declared.RolledAt.{RolledAt}
use Rattle.curves.specs.Drawn.{chords_of}

-- no refusal, or one that is not of what is handed in or lent
unfoldable pub arithmetical : ℕ → Bool
arithmetical r = eqb r 0 || leb 8 r

-- a computation meets no other
abbrev pub Met : {A : Type 0} → Checked A → Type 0
Met c = T (arithmetical c.refusal)

-- ---- the parts
none_met : T (arithmetical 0)
unfolding arithmetical
none_met = tt

ten_met : T (arithmetical COUNT_TOO_LARGE)
unfolding arithmetical
ten_met = tt

first_met : (a b : ℕ) → T (arithmetical a) → T (arithmetical b) → T (arithmetical (first a b))
unfolding first
first_met zero b p q = q
first_met (suc a) b p q = p

nine_met : (x : Float) → T (arithmetical (nine x))
unfolding nine arithmetical
nine_met x = by (is_finite x)
  where
    by : (b : Bool) → T (arithmetical (cond b 0 NOT_FINITE))
    by true = tt
    by false = tt

eight_met : (x : Float) → T (arithmetical (eight x))
unfolding eight arithmetical
eight_met x = by (within x)
  where
    by : (b : Bool) → T (arithmetical (cond b 0 ANGLE_TOO_LARGE))
    by true = tt
    by false = tt

cond_met : {A : Type 0} (b : Bool) (m n : Checked A) → Met m → Met n → Met (cond b m n)
cond_met true m n p q = p
cond_met false m n p q = q

ruleset parts = (none_met, ten_met, first_met, nine_met, eight_met, cond_met)

-- a loop whose steps meet no other, and a list of such items
fold_met : {A : Type 0} (step : ℕ → A → Checked A) (start : A) → ((k : ℕ) (a : A) → Met (step k a)) → (n : ℕ) → Met (fold_c n step start)
unfolding fold_c
fold_met step start h zero = none_met
fold_met step start h (suc n) = first_met _ _ (fold_met step start h n) (h n _)

pub up_to_met : {A : Type 0} (f : ℕ → Checked A) → ((k : ℕ) → Met (f k)) → (m : ℕ) → Met (up_to f m)
unfolding up_to
up_to_met f h zero = none_met
up_to_met f h (suc m) = first_met _ _ (up_to_met f h m) (first_met _ _ (h (suc m)) none_met)

-- ---- turns and counts
turn_met : (arc : ProfileArc) (a b : Vec2) → Met (turn_c arc a b)
unfolding turn_c apart_c ahead_c back_c
turn_met arc a b = search parts depth 60 fits 4000

per_turn_met : (radius chord : Float) → Met (chords.per_turn_c radius chord)
unfolding chords.per_turn_c chords.chords_c chords.quotient_c
per_turn_met radius chord = search parts depth 60 fits 4000

count_met : (x least : Float) (limit : ℕ) → Met (count_c x least limit)
unfolding count_c limited_c
count_met x least limit = search parts depth 60 fits 4000

-- ---- a meet's pipe, and where its generatrix meets the cylinder
pipe_met : (m : Meet) (n : Float) → Met (pipe_c m n)
unfolding pipe_c own_c other_c over_length_c length_c times_c cross_c dot_c
pipe_met m n = by m.turn
  where
    by : (k : Option Angles) → Met (pipe_by k m n)
    by None = search parts depth 60 fits 4000
    by (Some a) = search parts depth 60 fits 4000

intersection_met : (p : Pipe) (phi : Float) → Met (intersection_c p phi)
unfolding intersection_c across_c lesser_c plus_c minus_c times_c dot_c
intersection_met p phi = search parts depth 60 fits 4000

derivatives_met : (p : Pipe) (h : Intersection) → Met (generatrix.first_derivatives_c p h)
unfolding generatrix.first_derivatives_c across_c minus_c times_c dot_c
derivatives_met p h = search parts depth 60 fits 4000

-- ---- along a meet
rate_met : (c : MeetCurve) → Met (meet_curves.rate_c c)
unfolding meet_curves.rate_c
rate_met c = by c.turn
  where
    by : (k : Option Angles) → Met (meet_curves.rate_by k c)
    by None = search parts
    by (Some a) = search parts

angle_met : (c : MeetCurve) (t : Float) → Met (meet_curves.angle_c c t)
unfolding meet_curves.angle_c
angle_met c t = by c.turn
  where
    by : (k : Option Angles) → Met (meet_curves.angle_by k c t)
    by None = search parts depth 60 fits 4000
    by (Some a) = search parts depth 60 fits 4000

ruleset along = (parts, rate_met, angle_met, intersection_met, derivatives_met)

slope_v_met : (c : MeetCurve) (t : Float) → Met (meet_curves.slope_v_c c t)
unfolding meet_curves.slope_v_c
slope_v_met c t = search along depth 60 fits 4000

slope_u_met : (c : MeetCurve) (t : Float) → Met (meet_curves.slope_u_c c t)
unfolding meet_curves.slope_u_c meet_curves.around_c
slope_u_met c t = by c.turn
  where
    by : (k : Option Angles) → Met (meet_curves.slope_u_by k c t)
    by None = search parts
    by (Some a) = search along depth 60 fits 4000

meet_point_met : (c : MeetCurve) (t : Float) → Met (meet_curves.point_c c t)
unfolding meet_curves.point_c meet_curves.own_point_c meet_curves.hole_point_c meet_curves.spot_c meet_curves.near_c generatrix.height_c generatrix.point_c generatrix.along_generatrix_c plus_c times_c
meet_point_met c t = by c.turn
  where
    by : (k : Option Angles) → Met (meet_curves.point_by k c t)
    by None = search along depth 60 fits 4000
    by (Some a) = search along depth 60 fits 4000

-- ---- along a piece: its point and derivative, and its point alone
at_met : (r : PieceCurve) (t : Float) → Met (points.at_c r t)
unfolding points.at_c points.straight_c points.arc_c points.swung_c points.wave_c with_slope_c meet_curves.at_c
at_met r t = by r.way
  where
    by : (k : CurveKind) → Met (points.at_by k r t)
    by way.Straight = search parts depth 60 fits 4000
    by (way.Arc a) = search (parts, turn_met) depth 60 fits 4000
    by (way.Wave w) = search parts depth 60 fits 4000
    by (way.Meet c) = search (parts, slope_u_met, slope_v_met, meet_point_met) depth 60 fits 4000

flat_met : (r : PieceCurve) (t : Float) → Met (space.flat_c r t)
unfolding space.flat_c space.straight_c points.arc_point_c points.swung_c space.wave_c v_c
flat_met r t = by r.way
  where
    by : (k : CurveKind) → Met (space.flat_by k r t)
    by way.Straight = search parts depth 60 fits 4000
    by (way.Arc a) = search (parts, turn_met) depth 60 fits 4000
    by (way.Wave w) = search parts depth 60 fits 4000
    by (way.Meet c) = meet_point_met c t

rolled_met : (g : Rolling) (t : Float) → Met (space.rolled_c g t)
unfolding space.rolled_c developments.point_c developments.radial_at_c plus_c times_c cross_c
rolled_met g t = search (parts, flat_met) depth 60 fits 4000

-- ---- its measure
place_met : (r : PieceCurve) (k : ℕ) → Met (measures.place_c r k)
unfolding measures.place_c
place_met r k = search (parts, at_met) depth 60 fits 4000

longer_met : (s : Float) (a b : Vec2) → Met (measures.longer_c s a b)
unfolding measures.longer_c measures.distance_c
longer_met s a b = search parts depth 60 fits 4000

further_met : (s : Float) (u v : Vec2) → Met (measures.further_c s u v)
unfolding measures.further_c
further_met s u v = search parts depth 60 fits 4000

traced_met : (r : PieceCurve) → Met (measures.traced_c r)
unfolding measures.traced_c measures.places_c measures.length_c measures.turned_c
traced_met r =
    first_met _ _ (fold_met _ _ (λ k p. place_met r k) measures.PLACES)
    (first_met _ _ (fold_met _ _ (λ k s. longer_met s _ _) measures.CHORDS)
    (first_met _ _ (fold_met _ _ (λ k s. further_met s _ _) measures.CHORDS) none_met))

measure_met : (r : PieceCurve) → Met (measures.measure_c r)
unfolding measures.measure_c measures.segment_c measures.arc_c measures.distance_c
measure_met r = by r.way
  where
    by : (k : CurveKind) → Met (measures.measure_by k r)
    by way.Straight = search parts depth 60 fits 4000
    by (way.Arc a) = search (parts, turn_met) depth 60 fits 4000
    by (way.Wave w) = traced_met r
    by (way.Meet c) = traced_met r

-- ---- its chords, and the points between them
own_turn_met : (w : CurveKind) (rho chord : Float) → Met (counts.own_turn_c w rho chord)
unfolding counts.own_turn_c
own_turn_met way.Straight rho chord = per_turn_met rho chord
own_turn_met (way.Arc a) rho chord = per_turn_met rho chord
own_turn_met (way.Wave w) rho chord = none_met
own_turn_met (way.Meet c) rho chord = none_met

kind_met : (from to : Vec2) (n : Float) (arc : Option ProfileArc) (t : Option Trace) → Met (kind_c from to n arc t)
unfolding kind_c meet_curves.meet_curve_c
kind_met from to n arc (Some (trace.Wave w)) = none_met
kind_met from to n arc (Some (trace.Meet m)) = first_met _ _ (first_met _ _ (pipe_met m n) none_met) none_met
kind_met from to n (Some a) None = none_met
kind_met from to n None None = none_met

pub chords_of_met : (w : RolledAt) (chord : Float) → Met (chords_of w chord)
unfolding chords_of run_c curve_c counts.chords_c
chords_of_met w chord = search (parts, kind_met, measure_met, own_turn_met, per_turn_met, count_met) depth 60 fits 4000

pub inner_met : (g : Rolling) (n k : ℕ) → Met (inner_c g n k)
unfolding inner_c
inner_met g n k = search (parts, rolled_met) depth 60 fits 4000
