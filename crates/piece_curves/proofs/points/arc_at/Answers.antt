use Rattle.piece_curves.specs.Points.{arc_c}
use Rattle.checked.specs.ToldLaws.{stops, gives, none_met, value_is, met_is, rules as told_rules}
use Rattle.piece_curves.specs.PointsLaws.{arc_refusal}
use Rattle.piece_curves.proofs.points.arc_at.Goals as goal

pub returns-in_err-w : goal.returns-in_err-w
returns-in_err-w c =
    let w = c.in_err-w.ensures in
    stops _ _ _ c.from_residual.ensures (simp arc_refusal (unfold arc_c in simp (met_is _ _ w, told_rules)))

pub returns-in_err-x : goal.returns-in_err-x
returns-in_err-x c =
    let w = c.in_ok-w.ensures in
    let x = simp (← value_is _ _ w) at c.in_err-x.ensures in
    stops _ _ _ c.from_residual-in_err-x.ensures (simp arc_refusal (unfold arc_c in simp (none_met _ _ w, met_is _ _ x, told_rules)))

pub returns-in_err-y : goal.returns-in_err-y
returns-in_err-y c =
    let w = c.in_ok-w.ensures in
    let x = simp (← value_is _ _ w) at c.in_ok-x.ensures in
    let y = simp (← value_is _ _ w) at c.in_err-y.ensures in
    stops _ _ _ c.from_residual-in_err-y.ensures (simp arc_refusal (unfold arc_c in simp (none_met _ _ w, none_met _ _ x, met_is _ _ y, told_rules)))

pub returns-in_err-dx : goal.returns-in_err-dx
returns-in_err-dx c =
    let w = c.in_ok-w.ensures in
    let x = simp (← value_is _ _ w) at c.in_ok-x.ensures in
    let y = simp (← value_is _ _ w) at c.in_ok-y.ensures in
    let dx = simp (← value_is _ _ w) at c.in_err-dx.ensures in
    stops _ _ _ c.from_residual-in_err-dx.ensures (simp arc_refusal (unfold arc_c in simp (none_met _ _ w, none_met _ _ x, none_met _ _ y, met_is _ _ dx, told_rules)))

pub returns-in_err-dy : goal.returns-in_err-dy
returns-in_err-dy c =
    let w = c.in_ok-w.ensures in
    let x = simp (← value_is _ _ w) at c.in_ok-x.ensures in
    let y = simp (← value_is _ _ w) at c.in_ok-y.ensures in
    let dx = simp (← value_is _ _ w) at c.in_ok-dx.ensures in
    let dy = simp (← value_is _ _ w) at c.in_err-dy.ensures in
    stops _ _ _ c.from_residual-in_err-dy.ensures (simp arc_refusal (unfold arc_c in simp (none_met _ _ w, none_met _ _ x, none_met _ _ y, none_met _ _ dx, met_is _ _ dy, told_rules)))

pub returns : goal.returns
returns c =
    let w = c.in_ok-w.ensures in
    let x = simp (← value_is _ _ w) at c.in_ok-x.ensures in
    let y = simp (← value_is _ _ w) at c.in_ok-y.ensures in
    let dx = simp (← value_is _ _ w) at c.in_ok-dx.ensures in
    let dy = simp (← value_is _ _ w) at c.in_ok-dy.ensures in
    gives _ _
    (simp arc_refusal (unfold arc_c in simp (none_met _ _ w, none_met _ _ x, none_met _ _ y, none_met _ _ dx, none_met _ _ dy, told_rules)))
    (unfold arc_c in simp (← value_is _ _ dy, ← value_is _ _ dx, ← value_is _ _ y, ← value_is _ _ x))
