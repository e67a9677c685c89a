use Rattle.boxes.proofs.Laws.{rules as boxes_rules}
use Rattle.checked.specs.ToldLaws.{none_met, value_is, met_is, follows, stops, rules as told_rules}
use Rattle.arcs.specs.ExtremesLaws.{points_refusal, points_value}
use Rattle.arcs.proofs.extremes.extended.Goals as goal

pub returns-in_err-turn : goal.returns-in_err-turn
returns-in_err-turn c =
    let turn = simp c.minus-u.ensures at c.in_err-turn.ensures in
    stops _ _ _ c.from_residual.ensures (simp (points_refusal, met_is _ _ turn, told_rules))

pub returns-in_err-x : goal.returns-in_err-x
returns-in_err-x c =
    let turn = simp c.minus-u.ensures at c.in_ok-turn.ensures in
    let x = simp (c.minus-u.ensures, ← value_is _ _ turn) at c.in_err-x.ensures in
    stops _ _ _ c.from_residual-in_err-x.ensures (simp (points_refusal, none_met _ _ turn, met_is _ _ x, told_rules))

pub returns-in_err-y : goal.returns-in_err-y
returns-in_err-y c =
    let turn = simp c.minus-u.ensures at c.in_ok-turn.ensures in
    let x = simp (c.minus-u.ensures, ← value_is _ _ turn) at c.in_ok-x.ensures in
    let y = simp (c.minus-u.ensures, ← value_is _ _ turn) at c.in_err-y.ensures in
    stops _ _ _ c.from_residual-in_err-y.ensures (simp (points_refusal, none_met _ _ turn, none_met _ _ x, met_is _ _ y, told_rules))

pub returns : goal.returns
returns c =
    let turn = simp c.minus-u.ensures at c.in_ok-turn.ensures in
    let x = simp (c.minus-u.ensures, c.widened-ends.ensures, c.widened.ensures, ← value_is _ _ turn) at c.in_ok-x.ensures in
    let y = simp (c.minus-u.ensures, ← value_is _ _ turn, ← value_is _ _ x) at c.in_ok-y.ensures in
    let z = simp (c.minus-u.ensures, ← value_is _ _ turn, ← value_is _ _ y) at c.with_extremes-3.ensures in
    follows _ _ _ _ z
    (simp (points_refusal, none_met _ _ turn, none_met _ _ x, none_met _ _ y, told_rules))
    (simp (points_value, boxes_rules))
