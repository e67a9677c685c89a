use Rattle.meets.specs.Meets.{height_c}
use Rattle.checked.specs.ToldLaws.{stops, follows, none_met, value_is, met_is, rules as told_rules}
use Rattle.meets.proofs.formula.height.Goals as goal

pub returns-in_err-p : goal.returns-in_err-p
returns-in_err-p c = stops _ _ _ c.from_residual.ensures (unfold height_c in simp (met_is _ _ c.in_err-p.ensures, told_rules))

pub returns : goal.returns
returns c =
    let p = c.in_ok-p.ensures in
    follows _ _ _ _ c.height.ensures
    (unfold height_c in simp (none_met _ _ p, value_is _ _ p, told_rules))
    (unfold height_c in simp (value_is _ _ p))
