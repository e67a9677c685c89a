use Rattle.waves.specs.Values.{slope_c}
use Rattle.checked.specs.ToldLaws.{stops, follows, none_met, value_is, met_is, rules as told_rules}
use Rattle.waves.specs.ValuesLaws.{slope_refusal}
use Rattle.waves.proofs.values.slope.Goals as goal

pub returns-in_err-t : goal.returns-in_err-t
returns-in_err-t c =
    stops _ _ _ c.from_residual.ensures (simp (slope_refusal, met_is _ _ c.in_err-t.ensures, told_rules))

pub returns : goal.returns
returns c =
    let t = c.in_ok-t.ensures in
    follows _ _ _ _ c.finite.ensures
    (simp (slope_refusal, none_met _ _ t, told_rules) (unfold slope_c in simp (value_is _ _ t)))
    (unfold slope_c in simp (value_is _ _ t))
