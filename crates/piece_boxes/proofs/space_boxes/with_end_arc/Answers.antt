use Rattle.checked.specs.ToldLaws.{stops, follows, none_met, value_is, met_is, rules as told_rules}
use Rattle.piece_boxes.specs.SpaceBoxesLaws.{rim_refusal, rim_value}
use Rattle.piece_boxes.proofs.space_boxes.with_end_arc.Goals as goal

pub returns-in_err-center : goal.returns-in_err-center
returns-in_err-center c =
    let centre = simp (c.plus.ensures, c.times.ensures) at c.in_err-center.ensures in
    stops _ _ _ c.from_residual.ensures (simp (rim_refusal, met_is _ _ centre, told_rules))

pub returns-in_err-from : goal.returns-in_err-from
returns-in_err-from c =
    let centre = simp (c.plus.ensures, c.times.ensures) at c.in_ok-center.ensures in
    stops _ _ _ c.from_residual-in_err-from.ensures (simp (rim_refusal, none_met _ _ centre, met_is _ _ c.in_err-from.ensures, told_rules))

pub returns-in_err-to : goal.returns-in_err-to
returns-in_err-to c =
    let centre = simp (c.plus.ensures, c.times.ensures) at c.in_ok-center.ensures in
    stops _ _ _ c.from_residual-in_err-to.ensures
    (simp (rim_refusal, none_met _ _ centre, none_met _ _ c.in_ok-from.ensures, met_is _ _ c.in_err-to.ensures, told_rules))

pub returns : goal.returns
returns c =
    let centre = simp (c.plus.ensures, c.times.ensures) at c.in_ok-center.ensures in
    let from = c.in_ok-from.ensures in
    let to = c.in_ok-to.ensures in
    let arc = simp (← value_is _ _ centre, ← value_is _ _ from, ← value_is _ _ to) at c.extended.ensures in
    follows _ _ _ _ arc (simp (rim_refusal, none_met _ _ centre, none_met _ _ from, none_met _ _ to, told_rules)) (simp rim_value)
