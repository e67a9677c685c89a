use Rattle.waves.specs.Values.{with_slope_c}
use Rattle.checked.specs.ToldLaws.{stops, gives, none_met, value_is, met_is, rules as told_rules}
use Rattle.waves.specs.ValuesLaws.{with_slope_refusal}
use Rattle.waves.proofs.values.with_slope.Goals as goal

pub returns-in_err-t : goal.returns-in_err-t
returns-in_err-t c =
    stops _ _ _ c.from_residual.ensures (simp (with_slope_refusal, met_is _ _ c.in_err-t.ensures, told_rules))

pub returns-in_err-v : goal.returns-in_err-v
returns-in_err-v c =
    let t = c.in_ok-t.ensures in
    stops _ _ _ c.from_residual-in_err-v.ensures
    (simp (with_slope_refusal, none_met _ _ t, told_rules) (unfold with_slope_c in simp (value_is _ _ t, met_is _ _ c.in_err-v.ensures, told_rules)))

pub returns-in_err-slope : goal.returns-in_err-slope
returns-in_err-slope c =
    let t = c.in_ok-t.ensures in
    stops _ _ _ c.from_residual-in_err-slope.ensures
    (simp (with_slope_refusal, none_met _ _ t, told_rules) (unfold with_slope_c in simp (value_is _ _ t, none_met _ _ c.in_ok-v.ensures, met_is _ _ c.in_err-slope.ensures, told_rules)))

pub returns : goal.returns
returns c =
    let t = c.in_ok-t.ensures in
    gives _ _
    (simp (with_slope_refusal, none_met _ _ t, told_rules) (unfold with_slope_c in simp (value_is _ _ t, none_met _ _ c.in_ok-v.ensures, none_met _ _ c.in_ok-slope.ensures, told_rules)))
    (unfold with_slope_c in simp (value_is _ _ t, value_is _ _ c.in_ok-v.ensures, value_is _ _ c.in_ok-slope.ensures))
