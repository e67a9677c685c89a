use Rattle.checked.specs.Laws.{opened}
use Rattle.checked.specs.ToldLaws.{stops, gives, none_met, value_is, met_is, rules as told_rules}
use Rattle.piece_boxes.specs.CurveBoxes.{arc_c}
use Rattle.piece_boxes.proofs.curve_boxes.arc_box.Goals as goal

pub returns-in_err-d : goal.returns-in_err-d
unfolding arc_c
returns-in_err-d c =
    let d = c.in_err-d.ensures in
    stops _ _ _ c.from_residual.ensures (simp (opened, met_is _ _ d, told_rules))

pub returns-in_err-u0 : goal.returns-in_err-u0
unfolding arc_c
returns-in_err-u0 c =
    let d = c.in_ok-d.ensures in
    let u0 = simp (← value_is _ _ d) at c.in_err-u0.ensures in
    stops _ _ _ c.from_residual-in_err-u0.ensures (simp (opened, none_met _ _ d, met_is _ _ u0, told_rules))

pub returns-in_err-u1 : goal.returns-in_err-u1
unfolding arc_c
returns-in_err-u1 c =
    let d = c.in_ok-d.ensures in
    let u0 = simp (← value_is _ _ d) at c.in_ok-u0.ensures in
    let u1 = simp (← value_is _ _ d) at c.in_err-u1.ensures in
    stops _ _ _ c.from_residual-in_err-u1.ensures (simp (opened, none_met _ _ d, none_met _ _ u0, met_is _ _ u1, told_rules))

pub returns-in_err-v0 : goal.returns-in_err-v0
unfolding arc_c
returns-in_err-v0 c =
    let d = c.in_ok-d.ensures in
    let u0 = simp (← value_is _ _ d) at c.in_ok-u0.ensures in
    let u1 = simp (← value_is _ _ d) at c.in_ok-u1.ensures in
    let v0 = simp (← value_is _ _ d) at c.in_err-v0.ensures in
    stops _ _ _ c.from_residual-in_err-v0.ensures (simp (opened, none_met _ _ d, none_met _ _ u0, none_met _ _ u1, met_is _ _ v0, told_rules))

pub returns-in_err-v1 : goal.returns-in_err-v1
unfolding arc_c
returns-in_err-v1 c =
    let d = c.in_ok-d.ensures in
    let u0 = simp (← value_is _ _ d) at c.in_ok-u0.ensures in
    let u1 = simp (← value_is _ _ d) at c.in_ok-u1.ensures in
    let v0 = simp (← value_is _ _ d) at c.in_ok-v0.ensures in
    let v1 = simp (← value_is _ _ d) at c.in_err-v1.ensures in
    stops _ _ _ c.from_residual-in_err-v1.ensures (simp (opened, none_met _ _ d, none_met _ _ u0, none_met _ _ u1, none_met _ _ v0, met_is _ _ v1))

pub returns : goal.returns
unfolding arc_c
returns c =
    let d = c.in_ok-d.ensures in
    let u0 = simp (← value_is _ _ d) at c.in_ok-u0.ensures in
    let u1 = simp (← value_is _ _ d) at c.in_ok-u1.ensures in
    let v0 = simp (← value_is _ _ d) at c.in_ok-v0.ensures in
    let v1 = simp (← value_is _ _ d) at c.in_ok-v1.ensures in
    gives _ _
    (simp (opened, none_met _ _ d, none_met _ _ u0, none_met _ _ u1, none_met _ _ v0, none_met _ _ v1))
    (simp (c.greatest-2.ensures, c.greatest.ensures, c.least-2.ensures, c.least.ensures, c.ends-b.ensures, value_is _ _ u0, value_is _ _ u1, value_is _ _ v0, value_is _ _ v1))
