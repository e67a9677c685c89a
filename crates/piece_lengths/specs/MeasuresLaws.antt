-- Which notes suffice of a measure. Assumes nothing.
use Rattle.std.specs.Prelude.{ℕ, ◌≡◌, refl, Float}
use Rattle.std.proofs.Common.{sym, ◌∙◌, ap, subst}
use Rattle.std.specs.Float.{binary64}
use Rattle.std.specs.Float.Ieee.{add, sub, mul, div}
use Rattle.checked.specs.Checked.{first, nine}
use Rattle.checked.specs.Laws.{rules as checked_rules}
use Rattle.libm.specs.Atan2.{atan2}
use Rattle.vectors.specs.declared.Vec2.{Vec2}
use Rattle.vectors.specs.Vectors.{plane}
use Rattle.waves.specs.declared.Wave.{Wave}
use Rattle.checked.specs.Numbers.{float}
use Rattle.piece_curves.specs.declared.meet_curves.MeetCurve.{MeetCurve}
use Rattle.piece_curves.specs.MeetCurves as courses
use Rattle.piece_curves.specs.MeetCurves.{placed_c}
use Rattle.piece_curves.specs.MeetCurvesLaws.{point_refusal, point_value}
use Rattle.piece_curves.specs.declared.CurveKind.{CurveKind}
use Rattle.piece_curves.specs.declared.CurveKind.TheVariants as way
use Rattle.piece_curves.specs.declared.PieceCurve.{PieceCurve}
use Rattle.piece_curves.specs.PieceCurves.{curve_by}
use Rattle.piece_curves.specs.Points.{at_c}
use Rattle.piece_lengths.specs.Measures.{steps, distance_c, place_c, places_c, longer_c, further_c, length_c, turned_c, traced_c, wave_run, followed, measure_by, measure_c}

pub distance_refusal : (a b : Vec2) → (distance_c a b).refusal ≡ first (nine (sub binary64 b.x a.x)) (first (nine (sub binary64 b.y a.y)) (nine (distance_c a b).value))
unfolding distance_c
distance_refusal a b = simp checked_rules

pub longer_refusal : (s : Float) (a b : Vec2) → (longer_c s a b).refusal ≡ first (distance_c a b).refusal (nine (longer_c s a b).value)
unfolding longer_c
longer_refusal s a b = simp checked_rules

-- the two numbers that the arctangent takes
abbrev crossed : Vec2 → Vec2 → Float
crossed u v = sub binary64 (mul binary64 u.x v.y) (mul binary64 u.y v.x)

abbrev dotted : Vec2 → Vec2 → Float
dotted u v = add binary64 (mul binary64 u.x v.x) (mul binary64 u.y v.y)

pub further_refusal : (s : Float) (u v : Vec2) → (further_c s u v).refusal ≡ first (nine (crossed u v)) (first (nine (dotted u v)) (first (nine (atan2 (crossed u v) (dotted u v))) (nine (further_c s u v).value)))
unfolding further_c
further_refusal s u v = simp checked_rules

-- a run whose way is known
pub way_known : (r : PieceCurve) (w : CurveKind) → r.way ≡ w → curve_by r.ends.from r.ends.to r.ends.neutral w ≡ r
way_known r w e = subst (λ (v : CurveKind). curve_by r.ends.from r.ends.to r.ends.neutral v ≡ r) e refl

meet_traced : (from to : Vec2) (n : Float) (c : MeetCurve) → traced_c (followed c) ≡ traced_c (curve_by from to n (way.Meet c))
unfolding traced_c places_c length_c turned_c place_c at_c
meet_traced from to n c = refl

pub meet_known : (r : PieceCurve) (c : MeetCurve) → r.way ≡ way.Meet c → traced_c (followed c) ≡ measure_c r
unfolding measure_c
meet_known r c e = meet_traced r.ends.from r.ends.to r.ends.neutral c ∙ (ap traced_c (way_known r (way.Meet c) e) ∙ sym (ap (λ (w : CurveKind). measure_by w r) e))

pub wave_known : (r : PieceCurve) (w : Wave) → r.way ≡ way.Wave w → traced_c (wave_run r.ends.from r.ends.to r.ends.neutral w) ≡ measure_c r
unfolding measure_c
wave_known r w e = ap traced_c (way_known r (way.Wave w) e) ∙ sym (ap (λ (v : CurveKind). measure_by v r) e)

-- a place of a meet by the derivatives of u and of v there, and where the generatrix ends
abbrev pub place_at : ℕ → Float
place_at k = div binary64 (float k) steps

pub meet_refusal : (c : MeetCurve) (k : ℕ) → (place_c (followed c) k).refusal ≡ first (nine (place_at k)) (first (courses.slope_u_c c (place_at k)).refusal (first (courses.slope_v_c c (place_at k)).refusal (first (courses.intersection_at_c c (place_at k)).refusal (placed_c c (place_at k) (courses.spot_c c (place_at k)).value).refusal)))
unfolding place_c at_c courses.at_c
meet_refusal c k = simp (point_refusal, checked_rules)

pub meet_value : (c : MeetCurve) (k : ℕ) → (place_c (followed c) k).value ≡ record { p = (placed_c c (place_at k) (courses.spot_c c (place_at k)).value).value; d = plane (courses.slope_u_c c (place_at k)).value (courses.slope_v_c c (place_at k)).value }
unfolding place_c at_c courses.at_c
meet_value c k = simp point_value
