use Rattle.checked.specs.ToldLaws.{stops, gives, none_met, value_is, met_is, rules as told_rules}
use Rattle.piece_lengths.specs.SecondDerivatives.{arc_c}
use Rattle.piece_lengths.specs.SecondDerivativesLaws.{arc_refusal}
use Rattle.piece_lengths.proofs.second_derivatives.arc_second.Goals as goal

pub returns-in_err-p : goal.returns-in_err-p
returns-in_err-p c = stops _ _ _ c.from_residual.ensures (simp (arc_refusal, met_is _ _ c.in_err-p.ensures, told_rules))

pub returns-in_err-turn : goal.returns-in_err-turn
returns-in_err-turn c = stops _ _ _ c.from_residual-in_err-turn.ensures (simp (arc_refusal, none_met _ _ c.in_ok-p.ensures, met_is _ _ c.in_err-turn.ensures, told_rules))

pub returns-in_err-x : goal.returns-in_err-x
returns-in_err-x c =
    let p = c.in_ok-p.ensures in
    let k = c.in_ok-turn.ensures in
    let x = simp (← value_is _ _ p, ← value_is _ _ k) at c.in_err-x.ensures in
    stops _ _ _ c.from_residual-in_err-x.ensures (simp (arc_refusal, none_met _ _ p, none_met _ _ k, told_rules) (unfold arc_c in simp (met_is _ _ x, told_rules)))

pub returns-in_err-y : goal.returns-in_err-y
returns-in_err-y c =
    let p = c.in_ok-p.ensures in
    let k = c.in_ok-turn.ensures in
    let x = simp (← value_is _ _ p, ← value_is _ _ k) at c.in_ok-x.ensures in
    let y = simp (← value_is _ _ p, ← value_is _ _ k) at c.in_err-y.ensures in
    stops _ _ _ c.from_residual-in_err-y.ensures (simp (arc_refusal, none_met _ _ p, none_met _ _ k, told_rules) (unfold arc_c in simp (none_met _ _ x, met_is _ _ y, told_rules)))

pub returns : goal.returns
returns c =
    let p = c.in_ok-p.ensures in
    let k = c.in_ok-turn.ensures in
    let x = simp (← value_is _ _ p, ← value_is _ _ k) at c.in_ok-x.ensures in
    let y = simp (← value_is _ _ p, ← value_is _ _ k) at c.in_ok-y.ensures in
    gives _ _ (simp (arc_refusal, none_met _ _ p, none_met _ _ k, told_rules) (unfold arc_c in simp (none_met _ _ x, none_met _ _ y, told_rules))) (unfold arc_c in simp (value_is _ _ x, value_is _ _ y))
