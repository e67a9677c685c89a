use Rattle.piece_curves.specs.Points.{arc_point_c}
use Rattle.checked.specs.ToldLaws.{stops, gives, none_met, value_is, met_is, rules as told_rules}
use Rattle.piece_curves.specs.PointsLaws.{arc_point_refusal}
use Rattle.piece_curves.proofs.points.arc_point.Goals as goal

pub returns-in_err-w : goal.returns-in_err-w
returns-in_err-w c =
    let w = c.in_err-w.ensures in
    stops _ _ _ c.from_residual.ensures (simp arc_point_refusal (unfold arc_point_c in simp (met_is _ _ w, told_rules)))

pub returns-in_err-x : goal.returns-in_err-x
returns-in_err-x c =
    let w = c.in_ok-w.ensures in
    let x = simp (← value_is _ _ w) at c.in_err-x.ensures in
    stops _ _ _ c.from_residual-in_err-x.ensures (simp arc_point_refusal (unfold arc_point_c in simp (none_met _ _ w, met_is _ _ x, told_rules)))

pub returns-in_err-y : goal.returns-in_err-y
returns-in_err-y c =
    let w = c.in_ok-w.ensures in
    let x = simp (← value_is _ _ w) at c.in_ok-x.ensures in
    let y = simp (← value_is _ _ w) at c.in_err-y.ensures in
    stops _ _ _ c.from_residual-in_err-y.ensures (simp arc_point_refusal (unfold arc_point_c in simp (none_met _ _ w, none_met _ _ x, met_is _ _ y, told_rules)))

pub returns : goal.returns
returns c =
    let w = c.in_ok-w.ensures in
    let x = simp (← value_is _ _ w) at c.in_ok-x.ensures in
    let y = simp (← value_is _ _ w) at c.in_ok-y.ensures in
    gives _ _
    (simp arc_point_refusal (unfold arc_point_c in simp (none_met _ _ w, none_met _ _ x, none_met _ _ y, told_rules)))
    (unfold arc_point_c in simp (← value_is _ _ y, ← value_is _ _ x))
