use Rattle.waves.specs.Values.{v_c}
use Rattle.checked.specs.ToldLaws.{stops, follows, none_met, value_is, met_is, rules as told_rules}
use Rattle.waves.specs.ValuesLaws.{v_refusal}
use Rattle.waves.proofs.values.v.Goals as goal

pub returns-in_err-t : goal.returns-in_err-t
returns-in_err-t c =
    stops _ _ _ c.from_residual.ensures (simp (v_refusal, met_is _ _ c.in_err-t.ensures, told_rules))

pub returns : goal.returns
returns c =
    let t = c.in_ok-t.ensures in
    follows _ _ _ _ c.finite.ensures
    (simp (v_refusal, none_met _ _ t, told_rules) (unfold v_c in simp (value_is _ _ t)))
    (unfold v_c in simp (value_is _ _ t))
