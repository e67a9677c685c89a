-- Which notes suffice along a piece that follows a meet. Assumes nothing.
use Rattle.std.specs.Prelude.{◌≡◌, refl, Float, Some, None, Option}
use Rattle.std.proofs.Common.{sym, ap, subst}
use Rattle.std.specs.Float.{binary64}
use Rattle.std.specs.Float.Ieee.{add, mul}
use Rattle.checked.specs.Checked.{Checked, first, nine, ◌>>=◌}
use Rattle.checked.specs.Laws.{first_zero, first_assoc, swap, rules as checked_rules}
use Rattle.profile_arcs.specs.Angles.{atan2_c}
use Rattle.rounding.specs.Laws.{rounded}
use Rattle.vectors.specs.declared.Vec3.{Vec3}
use Rattle.vectors.specs.Vectors.{plus_c, times_c}
use Rattle.meets.specs.declared.quadratic.Intersection.{Intersection}
use Rattle.meets.specs.Quadratic.{intersection_c}
use Rattle.meets.specs.declared.generatrix.FirstDerivatives.{FirstDerivatives}
use Rattle.meets.specs.Generatrix as reaches
use Rattle.meets.specs.GeneratrixLaws.{rules as reaches_rules}
use Rattle.meets.specs.declared.Angles.{Angles}
use Rattle.piece_curves.specs.declared.meet_curves.MeetCurve.{MeetCurve}
use Rattle.piece_curves.specs.MeetCurves.{rate_by, rate_c, angle_by, angle_c, intersection_at_c, spot_c, slope_v_c, around_c, near_c, own_point_c, hole_point_c, point_by, point_c, placed_by, placed_c}

ruleset all = (checked_rules, rounded)

pub rate_nine : (c : MeetCurve) → (rate_c c).refusal ≡ nine (rate_c c).value
unfolding rate_c
rate_nine c = by c.turn
  where
    by : (t : Option Angles) → (rate_by t c).refusal ≡ nine (rate_by t c).value
    by None = simp all
    by (Some a) = simp all

pub angle_nine : (c : MeetCurve) (t : Float) → (angle_c c t).refusal ≡ nine (angle_c c t).value
unfolding angle_c
angle_nine c t = by c.turn
  where
    by : (k : Option Angles) → (angle_by k c t).refusal ≡ nine (angle_by k c t).value
    by None = simp all
    by (Some a) = simp all

-- the angle, the generatrix there, and the derivatives along it
abbrev pub reached : MeetCurve → Float → Intersection
reached c t = (intersection_c c.pipe (angle_c c t).value).value

abbrev pub speed : MeetCurve → Float → FirstDerivatives
speed c t = (reaches.first_derivatives_c c.pipe (reached c t)).value

pub slope_v_refusal : (c : MeetCurve) (t : Float) → (slope_v_c c t).refusal ≡ first (nine (rate_c c).value) (first (nine (angle_c c t).value) (first (intersection_c c.pipe (angle_c c t).value).refusal (first (reaches.first_derivatives_c c.pipe (reached c t)).refusal (nine (slope_v_c c t).value))))
unfolding slope_v_c
slope_v_refusal c t = simp (rate_nine, angle_nine, all)

-- the square of the distance from the axis, a divisor
abbrev pub square : MeetCurve → Float → Float
square c t =
    let h = reached c t in
    let qx = add binary64 h.p0.x (mul binary64 c.pipe.a.x h.t) in
    let qy = add binary64 h.p0.y (mul binary64 c.pipe.a.y h.t) in
    add binary64 (mul binary64 qx qx) (mul binary64 qy qy)

-- the derivatives of the point's x and y
abbrev run_x : MeetCurve → Float → Float
run_x c t = add binary64 (speed c t).d1.x (mul binary64 c.pipe.a.x (speed c t).t1)

abbrev run_y : MeetCurve → Float → Float
run_y c t = add binary64 (speed c t).d1.y (mul binary64 c.pipe.a.y (speed c t).t1)

pub around_refusal : (c : MeetCurve) (t : Float) → (around_c c t).refusal ≡ first (nine (rate_c c).value) (first (nine (angle_c c t).value) (first (intersection_c c.pipe (angle_c c t).value).refusal (first (reaches.first_derivatives_c c.pipe (reached c t)).refusal (first (nine (square c t)) (nine (around_c c t).value)))))
unfolding around_c
around_refusal c t = simp (rate_nine, angle_nine, swap (run_x c t) (square c t), swap (run_y c t) (square c t), all)

-- the same by the generatrix at t
pub intersection_at_refusal : (c : MeetCurve) (t : Float) → (intersection_at_c c t).refusal ≡ first (nine (angle_c c t).value) (intersection_c c.pipe (angle_c c t).value).refusal
unfolding intersection_at_c
intersection_at_refusal c t = simp angle_nine

pub slope_v_met : (c : MeetCurve) (t : Float) → (slope_v_c c t).refusal ≡ first (nine (rate_c c).value) (first (intersection_at_c c t).refusal (first (reaches.first_derivatives_c c.pipe (reached c t)).refusal (nine (slope_v_c c t).value)))
slope_v_met c t = simp (slope_v_refusal, intersection_at_refusal, first_assoc)

pub around_met : (c : MeetCurve) (t : Float) → (around_c c t).refusal ≡ first (nine (rate_c c).value) (first (intersection_at_c c t).refusal (first (reaches.first_derivatives_c c.pipe (reached c t)).refusal (first (nine (square c t)) (nine (around_c c t).value))))
around_met c t = simp (around_refusal, intersection_at_refusal, first_assoc)

pub near_nine : (c : MeetCurve) (q : Vec3) → (near_c c q).refusal ≡ nine (near_c c q).value
unfolding near_c
near_nine c q = simp (atan2_c, all)

-- ---- the point by where its generatrix ends
-- without `turn` the angle is u over the neutral radius
abbrev own_angle_c : MeetCurve → Float → Checked Float
own_angle_c c t = angle_by None c t

own_angle : (c : MeetCurve) (t : Float) → c.turn ≡ None → angle_c c t ≡ own_angle_c c t
unfolding angle_c
own_angle c t e = ap (λ (k : Option Angles). angle_by k c t) e

abbrev reached_from : MeetCurve → Checked Float → Checked Intersection
reached_from c angle = do
  phi ← angle
  intersection_c c.pipe phi

abbrev spot_from : MeetCurve → Checked Float → Checked Vec3
spot_from c angle = do
  phi ← angle
  reaches.point_c c.pipe phi

own_refusal : (c : MeetCurve) (t : Float) → (own_point_c c t).refusal ≡ first (reached_from c (own_angle_c c t)).refusal (nine (spot_from c (own_angle_c c t)).value.z)
unfolding own_point_c reaches.height_c reaches.point_c reaches.along_generatrix_c plus_c times_c
own_refusal c t = simp all

own_value : (c : MeetCurve) (t : Float) → (own_point_c c t).value ≡ (placed_by None c t (spot_from c (own_angle_c c t)).value).value
unfolding own_point_c reaches.height_c reaches.point_c reaches.along_generatrix_c plus_c times_c
own_value c t = refl

hole_refusal : (c : MeetCurve) (t : Float) (a : Angles) → (hole_point_c c t).refusal ≡ first (intersection_at_c c t).refusal (placed_by (Some a) c t (spot_c c t).value).refusal
unfolding hole_point_c intersection_at_c spot_c reaches.point_c
hole_refusal c t a = simp (reaches_rules, all)

pub point_refusal : (c : MeetCurve) (t : Float) → (point_c c t).refusal ≡ first (intersection_at_c c t).refusal (placed_c c t (spot_c c t).value).refusal
unfolding point_c placed_c intersection_at_c spot_c
point_refusal c t = by c.turn refl
  where
    by : (k : Option Angles) → c.turn ≡ k → (point_by k c t).refusal ≡ first (intersection_at_c c t).refusal (placed_by k c t (spot_c c t).value).refusal
    by None e = subst (λ (a : Checked Float). (own_point_c c t).refusal ≡ first (reached_from c a).refusal (placed_by None c t (spot_from c a).value).refusal) (sym (own_angle c t e)) (simp first_zero (own_refusal c t))
    by (Some a) e = hole_refusal c t a

pub point_value : (c : MeetCurve) (t : Float) → (point_c c t).value ≡ (placed_c c t (spot_c c t).value).value
unfolding point_c placed_c hole_point_c spot_c
point_value c t = by c.turn refl
  where
    by : (k : Option Angles) → c.turn ≡ k → (point_by k c t).value ≡ (placed_by k c t (spot_c c t).value).value
    by None e = subst (λ (a : Checked Float). (own_point_c c t).value ≡ (placed_by None c t (spot_from c a).value).value) (sym (own_angle c t e)) (own_value c t)
    by (Some a) e = refl

pub ruleset rules = (rate_nine, angle_nine, near_nine)
