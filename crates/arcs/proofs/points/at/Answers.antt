use Rattle.checked.specs.Laws.{first_zero}
use Rattle.checked.specs.ToldLaws.{none_met, value_is, met_is, follows, stops, rules as told_rules}
use Rattle.arcs.specs.Points.{at_c}
use Rattle.arcs.specs.PointsLaws.{turned_refusal, turned_value}
use Rattle.arcs.proofs.points.at.Goals as goal

pub returns-in_err-rim : goal.returns-in_err-rim
unfolding at_c
returns-in_err-rim c =
    let rim = simp first_zero at c.in_err-rim.ensures in
    stops _ _ _ c.from_residual.ensures (simp (met_is _ _ rim, told_rules))

pub returns : goal.returns
unfolding at_c
returns c =
    let rim = simp first_zero at c.in_ok-rim.ensures in
    let p = simp (← value_is _ _ rim) at c.point.ensures in
    follows _ _ _ _ p (simp (none_met _ _ rim, told_rules, turned_refusal)) (simp turned_value)
