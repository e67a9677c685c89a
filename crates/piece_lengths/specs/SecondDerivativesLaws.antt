-- Which notes suffice of a second derivative. Assumes nothing.
use Rattle.std.specs.Prelude.{ℕ, zero, suc, ◌≡◌, refl, true, Float, Some, None, Option}
use Rattle.std.proofs.Common.{◌∙◌, ap}
use Rattle.std.specs.Float.{binary64}
use Rattle.std.specs.Float.Ieee.{add, sub, mul}
use Rattle.checked.specs.Checked.{Checked, first, nine, is_finite}
use Rattle.checked.specs.Laws.{swap, ends, tells, first_zero, absorbed, rules as checked_rules}
use Rattle.checked.specs.Numbers.{two}
use Rattle.vectors.specs.declared.Vec2.{Vec2}
use Rattle.vectors.specs.declared.Vec3.{Vec3}
use Rattle.meets.specs.declared.Angles.{Angles}
use Rattle.meets.specs.Quadratic.{intersection_c}
use Rattle.meets.specs.Generatrix as reaches
use Rattle.meets.specs.GeneratrixLaws.{speed_refusal, bend_refusal}
use Rattle.profile_arcs.specs.declared.ProfileArc.{ProfileArc}
use Rattle.profile_arcs.specs.Profiles.{turn_c}
use Rattle.waves.specs.declared.Wave.{Wave}
use Rattle.waves.specs.Values as waves
use Rattle.piece_curves.specs.declared.meet_curves.MeetCurve.{MeetCurve}
use Rattle.piece_curves.specs.MeetCurves.{rate_c, angle_c}
use Rattle.piece_curves.specs.MeetCurvesLaws.{rate_nine, angle_nine}
use Rattle.piece_curves.specs.Points.{arc_point_c}
use Rattle.piece_lengths.specs.SecondDerivatives.{level_c, level_at_c, level_slope_c, level_bend_c, height_bend_c, angle_bend_c, bend_u_c, bend_v_c, meet_by, meet_c, wave_c, arc_c}

-- ---- where a generatrix meets the cylinder
pub level_refusal : (p a : Vec3) (t : Float) → (level_c p a t).refusal ≡ first (nine (level_c p a t).value.x) (nine (level_c p a t).value.y)
unfolding level_c
level_refusal p a t = simp checked_rules

-- the square of the distance from the axis, squared, a divisor
abbrev pub fourth : Vec2 → Float
fourth q =
    let r2 = add binary64 (mul binary64 q.x q.x) (mul binary64 q.y q.y) in
    mul binary64 r2 r2

-- what is divided, and its second factor, which are finite where the quotient is
abbrev crossed : Vec2 → Vec2 → Float
crossed q q1 = sub binary64 (mul binary64 q.x q1.y) (mul binary64 q.y q1.x)

abbrev dividend : Vec2 → Vec2 → Vec2 → Float
dividend q q1 q2 =
    let r2 = add binary64 (mul binary64 q.x q.x) (mul binary64 q.y q.y) in
    sub binary64
    (mul binary64 (sub binary64 (mul binary64 q.x q2.y) (mul binary64 q.y q2.x)) r2)
    (mul binary64 (mul binary64 (crossed q q1) two) (add binary64 (mul binary64 q.x q1.x) (mul binary64 q.y q1.y)))

pub angle_bend_refusal : (q q1 q2 : Vec2) → (angle_bend_c q q1 q2).refusal ≡ first (nine (fourth q)) (nine (angle_bend_c q q1 q2).value)
unfolding angle_bend_c
angle_bend_refusal q q1 q2 = simp (swap (crossed q q1) (fourth q), swap (dividend q q1 q2) (fourth q), checked_rules)

-- ---- along a meet
-- a number that the end of a chain tells need not be noted before it
idle : (x y : Float) (r : ℕ) → first (nine x) r ≡ r → first (nine x) (first (nine y) r) ≡ first (nine y) r
idle x y r h = swap x y r ∙ ap (first (nine y)) h

twice : (a r : ℕ) → first a (first a r) ≡ first a r
unfolding first
twice zero r = refl
twice (suc a) r = refl

-- the three levels, each after the way to it: only the way is noted, since the end tells the levels
module _ (f u x0 y0 x1 y1 x2 y2 : Float) (a : tells (is_finite u) (is_finite x0) ≡ true) (b : tells (is_finite u) (is_finite y0) ≡ true) (c : tells (is_finite u) (is_finite x1) ≡ true) (d : tells (is_finite u) (is_finite y1) ≡ true) (e : tells (is_finite u) (is_finite x2) ≡ true) (g : tells (is_finite u) (is_finite y2) ≡ true) (t1 t2 : Float) where
  abbrev end : ℕ
  end = first (nine f) (nine u)

  at_end : (x : Float) → tells (is_finite u) (is_finite x) ≡ true → first (nine x) end ≡ end
  at_end x h = idle x f (nine u) (ends x u h)

  on_way : (x : Float) → tells (is_finite u) (is_finite x) ≡ true → first (nine x) (first (nine t1) (first (nine t2) end)) ≡ first (nine t1) (first (nine t2) end)
  on_way x h = idle x t1 _ (idle x t2 _ (at_end x h))

  way_alone : (i : ℕ) → first i (first (nine x0) (first (nine y0) (first i (first (nine t1) (first (nine x1) (first (nine y1) (first i (first (nine t1) (first (nine t2) (first (nine x2) (first (nine y2) end))))))))))) ≡ first i (first (nine t1) (first (nine t2) end))
  unfolding first
  way_alone zero = unfold first in simp (at_end y2 g, at_end x2 e, on_way y1 d, on_way x1 c, twice, on_way y0 b, on_way x0 a)
  way_alone (suc i) = refl

-- what is noted on the way, whatever turns
abbrev pub way : MeetCurve → Float → ℕ
way c t =
    let h = intersection_c c.pipe (angle_c c t).value in
    let v = reaches.first_derivatives_c c.pipe h.value in
    first (nine (rate_c c).value) (first (nine (angle_c c t).value) (first h.refusal (first v.refusal (reaches.second_derivatives_c c.pipe h.value v.value).refusal)))

pub bend_v_refusal : (c : MeetCurve) (t : Float) → (bend_v_c c t).refusal ≡ first (way c t) (nine (bend_v_c c t).value)
unfolding bend_v_c height_bend_c
bend_v_refusal c t = simp (rate_nine, angle_nine, checked_rules)

-- the angle's bend, and how it tells the levels
abbrev pub angle_by : MeetCurve → Float → Checked Float
angle_by c t =
    let phi = (angle_c c t).value in
    angle_bend_c (level_at_c c.pipe phi).value (level_slope_c c.pipe phi).value (level_bend_c c.pipe phi).value

module _ (q q1 q2 : Vec2) (n k : Float) where
  abbrev spun : Float
  spun = mul binary64 (mul binary64 (mul binary64 n (angle_bend_c q q1 q2).value) k) k

  tells_qx : tells (is_finite spun) (is_finite q.x) ≡ true
  unfolding angle_bend_c
  tells_qx = simp absorbed

  tells_qy : tells (is_finite spun) (is_finite q.y) ≡ true
  unfolding angle_bend_c
  tells_qy = simp absorbed

  tells_q1x : tells (is_finite spun) (is_finite q1.x) ≡ true
  unfolding angle_bend_c
  tells_q1x = simp absorbed

  tells_q1y : tells (is_finite spun) (is_finite q1.y) ≡ true
  unfolding angle_bend_c
  tells_q1y = simp absorbed

  tells_q2x : tells (is_finite spun) (is_finite q2.x) ≡ true
  unfolding angle_bend_c
  tells_q2x = simp absorbed

  tells_q2y : tells (is_finite spun) (is_finite q2.y) ≡ true
  unfolding angle_bend_c
  tells_q2y = simp absorbed

pub bend_u_refusal : (c : MeetCurve) (t : Float) → (bend_u_c c t).refusal ≡ first (way c t) (first (angle_by c t).refusal (nine (bend_u_c c t).value))
unfolding bend_u_c level_at_c level_slope_c level_bend_c
bend_u_refusal c t =
    let phi = (angle_c c t).value in
    let q = (level_at_c c.pipe phi).value in
    let q1 = (level_slope_c c.pipe phi).value in
    let q2 = (level_bend_c c.pipe phi).value in
    let k = (rate_c c).value in
    let n = c.neutral in
    simp (rate_nine, angle_nine, level_refusal, speed_refusal, bend_refusal, angle_bend_refusal, checked_rules)
    (ap (λ r. first (nine k) (first (nine phi) r))
    (way_alone (fourth q) (spun q q1 q2 n k) q.x q.y q1.x q1.y q2.x q2.y (tells_qx q q1 q2 n k) (tells_qy q q1 q2 n k) (tells_q1x q q1 q2 n k) (tells_q1y q q1 q2 n k) (tells_q2x q q1 q2 n k) (tells_q2y q q1 q2 n k) _ _ _))

-- along any meet: what is noted after the way
abbrev pub rest : Option Angles → MeetCurve → Float → ℕ
rest None c t = nine (bend_v_c c t).value
rest (Some a) c t = first (first (angle_by c t).refusal (nine (bend_u_c c t).value)) (nine (bend_v_c c t).value)

both : (r f g : ℕ) → first (first r f) (first r g) ≡ first r (first f g)
unfolding first
both zero f g = refl
both (suc r) f g = refl

meet_by_refusal : (k : Option Angles) (c : MeetCurve) (t : Float) → (meet_by k c t).refusal ≡ first (way c t) (rest k c t)
meet_by_refusal None c t = simp first_zero (bend_v_refusal c t)
meet_by_refusal (Some a) c t = simp (first_zero, bend_u_refusal, bend_v_refusal) (both (way c t) _ _)

pub meet_refusal : (c : MeetCurve) (t : Float) → (meet_c c t).refusal ≡ first (way c t) (rest c.turn c t)
unfolding meet_c
meet_refusal c t = meet_by_refusal c.turn c t

-- ---- along a wave, and along an arc
pub wave_refusal : (w : Wave) (from to : Vec2) (n t : Float) →
    let du = sub binary64 to.x from.x in
    let u = add binary64 from.x (mul binary64 du t) in
    (wave_c w from to n t).refusal ≡ first (nine du) (first (nine u) (first (waves.bend_c w.b w.c u n).refusal (nine (wave_c w from to n t).value.y)))
unfolding wave_c
wave_refusal w from to n t = simp checked_rules

pub arc_refusal : (a : ProfileArc) (from to : Vec2) (t : Float) → (arc_c a from to t).refusal ≡ first (arc_point_c a from to t).refusal (first (turn_c a from to).refusal (first (nine (arc_c a from to t).value.x) (nine (arc_c a from to t).value.y)))
unfolding arc_c
arc_refusal a from to t = simp checked_rules
