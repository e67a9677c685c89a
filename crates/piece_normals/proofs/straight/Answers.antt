use Rattle.piece_normals.specs.Normals.{straight_c}
use Rattle.checked.specs.ToldLaws.{stops, gives, none_met, value_is, met_is, rules as told_rules}
use Rattle.piece_normals.proofs.straight.Goals as goal

pub returns-in_err-x : goal.returns-in_err-x
returns-in_err-x c =
    let x = c.in_err-x.ensures in
    stops _ _ _ c.from_residual.ensures (unfold straight_c in simp (met_is _ _ x, told_rules))

pub returns-in_err-y : goal.returns-in_err-y
returns-in_err-y c =
    let x = c.in_ok-x.ensures in
    let y = c.in_err-y.ensures in
    stops _ _ _ c.from_residual-in_err-y.ensures (unfold straight_c in simp (none_met _ _ x, met_is _ _ y, told_rules))

pub returns : goal.returns
returns c =
    let x = c.in_ok-x.ensures in
    let y = c.in_ok-y.ensures in
    gives _ _
    (unfold straight_c in simp (none_met _ _ x, none_met _ _ y, told_rules))
    (unfold straight_c in simp (← value_is _ _ y, ← value_is _ _ x))
