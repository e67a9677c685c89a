use Rattle.checked.specs.ToldLaws.{none_met, value_is, met_is, gives, stops, rules as told_rules}
use Rattle.arcs.proofs.points.rim.Goals as goal

pub returns-in_err-start : goal.returns-in_err-start
returns-in_err-start c = stops _ _ _ c.from_residual.ensures (simp (met_is _ _ c.in_err-start.ensures, told_rules))

pub returns : goal.returns
returns c =
    let start = c.in_ok-start.ensures in
    gives _ _ (simp (none_met _ _ start, told_rules)) (simp (c.cross.ensures, ← value_is _ _ start))
