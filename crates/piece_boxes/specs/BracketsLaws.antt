-- Which notes suffice in a meet's box. Assumes nothing.
use Rattle.std.specs.Prelude.{◌≡◌, refl, Bool, true, false, cond, Float}
use Rattle.std.specs.Float.{binary64}
use Rattle.std.specs.Float.Ieee.{add, mul}
use Rattle.checked.specs.Checked.{first, nine, answered}
use Rattle.checked.specs.Laws.{rules as checked_rules}
use Rattle.checked.specs.Numbers.{half}
use Rattle.piece_curves.specs.declared.meet_curves.MeetCurve.{MeetCurve}
use Rattle.piece_curves.specs.MeetCurves.{slope_u_c, slope_v_c, point_c}
use Rattle.piece_boxes.specs.declared.brackets.Bracket.{Bracket}
use Rattle.piece_boxes.specs.Brackets.{derivative_c, chosen, bisect_c, bisected_c, turning_c}

pub ruleset rules = (checked_rules)

-- the middle of a gap
abbrev pub middle : Bracket → Float
middle g = mul binary64 half (add binary64 g.lo g.hi)

-- a derivative by those of u and of v
pub derivative_is : (c : MeetCurve) (upright : Bool) (t : Float) → cond upright (answered (slope_v_c c t)) (answered (slope_u_c c t)) ≡ answered (derivative_c c upright t)
unfolding derivative_c
derivative_is c true t = refl
derivative_is c false t = refl

-- a halving by the derivative at the middle
pub halve_refusal : (c : MeetCurve) (upright rising : Bool) (g : Bracket) → (bisect_c c upright rising g).refusal ≡ first (nine (middle g)) (derivative_c c upright (middle g)).refusal
unfolding bisect_c
halve_refusal c upright rising g = simp rules

pub halve_value : (c : MeetCurve) (upright rising : Bool) (g : Bracket) → (bisect_c c upright rising g).value ≡ chosen g (middle g) (derivative_c c upright (middle g)).value rising
unfolding bisect_c
halve_value c upright rising g = refl

-- the point in the middle of what is left
pub turning_refusal : (c : MeetCurve) (upright rising : Bool) (g : Bracket) →
    let h = bisected_c c upright rising g in
    (turning_c c upright rising g).refusal ≡ first h.refusal (first (nine (middle h.value)) (point_c c (middle h.value)).refusal)
unfolding turning_c
turning_refusal c upright rising g = simp rules
