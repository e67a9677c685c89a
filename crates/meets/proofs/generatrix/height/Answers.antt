use Rattle.checked.specs.ToldLaws.{stops, follows, none_met, value_is, met_is, rules as told_rules}
use Rattle.meets.specs.GeneratrixLaws.{height_refusal, height_value}
use Rattle.meets.proofs.generatrix.height.Goals as goal

pub returns-in_err-h : goal.returns-in_err-h
returns-in_err-h c = stops _ _ _ c.from_residual.ensures (simp (height_refusal, met_is _ _ c.in_err-h.ensures, told_rules))

pub returns : goal.returns
returns c =
    let h = c.in_ok-h.ensures in
    follows _ _ _ _ c.finite.ensures
    (simp (height_refusal, none_met _ _ h, told_rules) (simp (height_value, value_is _ _ h)))
    (simp (height_value, value_is _ _ h))
