use Rattle.pieces.specs.Pieces.{normal_c}
use Rattle.checked.specs.ToldLaws.{stops, none_met, value_is, met_is, rules as told_rules}
use Rattle.pieces.proofs.formula.normal.Goals as goal

pub returns-in_err-d : goal.returns-in_err-d
unfolding normal_c
returns-in_err-d c =
    let d = simp c.ends.ensures at c.in_err-d.ensures in
    stops _ _ _ c.from_residual.ensures (simp (met_is _ _ d, told_rules))

pub returns : goal.returns
unfolding normal_c
returns c =
    let d = simp c.ends.ensures at c.in_ok-d.ensures in
    simp (c.normal_of.ensures, none_met _ _ d, value_is _ _ d, told_rules)
