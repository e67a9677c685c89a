-- Which notes suffice of a normal. Assumes nothing.
use Rattle.std.specs.Prelude.{ℕ, zero, suc, ◌≡◌, refl, Float}
use Rattle.std.specs.Float.{binary64}
use Rattle.std.specs.Float.Ieee.{sub, div}
use Rattle.checked.specs.Checked.{first, nine}
use Rattle.checked.specs.Numbers.{half}
use Rattle.checked.specs.Laws.{rules as checked_rules}
use Rattle.vectors.specs.declared.Vec2.{Vec2}
use Rattle.vectors.specs.declared.Vec3.{Vec3}
use Rattle.vectors.specs.Vectors.{nines, cross_c}
use Rattle.vectors.specs.Laws.{rules as vectors_rules}
use Rattle.directions.specs.Directions.{unit_c}
use Rattle.developments.specs.Formulas.{radial_at_c, along_c}
use Rattle.developments.specs.Laws.{along_refusal}
use Rattle.meets.specs.declared.Meet.{Meet}
use Rattle.piece_curves.specs.declared.meet_curves.MeetCurve.{MeetCurve}
use Rattle.piece_curves.specs.MeetCurves.{meet_curve_c, slope_u_c, slope_v_c}
use Rattle.piece_curves.specs.MeetCurves as courses
use Rattle.piece_normals.specs.Directions.{gradient_c, side_c}
use Rattle.piece_normals.specs.Normals.{own_c, normal_c}

again : (a b : ℕ) → first a (first a b) ≡ first a b
unfolding first
again zero b = refl
again (suc a) b = refl

-- the radial is met twice and noted once; the cross product tells of both vectors
module _ (axis start : Vec3) (n : Float) (p d : Vec2) (r : Float) where
  abbrev pub crossed : Vec3
  crossed = (cross_c (radial_at_c axis start n p.x).value (along_c axis start n p d r).value).value

pub normal_refusal : (axis start : Vec3) (n : Float) (p d : Vec2) (r : Float) → (normal_c axis start n p d r).refusal ≡ first (radial_at_c axis start n p.x).refusal (first (nines (crossed axis start n p d r)) (unit_c (crossed axis start n p d r)).refusal)
unfolding normal_c
normal_refusal axis start n p d r = simp (along_refusal, again, checked_rules, vectors_rules)

-- of a hole's edge at the piece's middle the last number alone
pub side_refusal : (origin axis : Vec3) (own : Float) (c : MeetCurve) → (side_c origin axis own c).refusal ≡ first (courses.at_c c half).refusal (first (gradient_c origin axis own c.neutral (courses.at_c c half).value.p).refusal (nine (side_c origin axis own c).value))
unfolding side_c
side_refusal origin axis own c = simp checked_rules

-- along a meet the place of p, and all that follows
abbrev pub part_of : Vec2 → Vec2 → Vec2 → Float
part_of from to p = div binary64 (sub binary64 p.x from.x) (sub binary64 to.x from.x)

pub own_refusal : (m : Meet) (from to : Vec2) (n : Float) (p : Vec2) → (own_c m from to n p).refusal ≡ first (nine (sub binary64 to.x from.x)) (first (nine (part_of from to p)) (first (meet_curve_c from to n m).refusal (first (slope_u_c (meet_curve_c from to n m).value (part_of from to p)).refusal (slope_v_c (meet_curve_c from to n m).value (part_of from to p)).refusal)))
unfolding own_c
own_refusal m from to n p = simp checked_rules
