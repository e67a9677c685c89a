use Rattle.waves.specs.Values.{derivatives_c}
use Rattle.checked.specs.ToldLaws.{stops, gives, none_met, value_is, met_is, rules as told_rules}
use Rattle.waves.specs.ValuesLaws.{jet_refusal}
use Rattle.waves.proofs.values.jet_at.Goals as goal

pub returns-in_err-t : goal.returns-in_err-t
returns-in_err-t c =
    stops _ _ _ c.from_residual.ensures (simp (jet_refusal, met_is _ _ c.in_err-t.ensures, told_rules))

pub returns-in_err-v : goal.returns-in_err-v
returns-in_err-v c =
    let t = c.in_ok-t.ensures in
    stops _ _ _ c.from_residual-in_err-v.ensures
    (simp (jet_refusal, none_met _ _ t, told_rules) (unfold derivatives_c in simp (value_is _ _ t, met_is _ _ c.in_err-v.ensures, told_rules)))

pub returns-in_err-slope : goal.returns-in_err-slope
returns-in_err-slope c =
    let t = c.in_ok-t.ensures in
    stops _ _ _ c.from_residual-in_err-slope.ensures
    (simp (jet_refusal, none_met _ _ t, told_rules) (unfold derivatives_c in simp (value_is _ _ t, none_met _ _ c.in_ok-v.ensures, met_is _ _ c.in_err-slope.ensures, told_rules)))

pub returns-in_err-s : goal.returns-in_err-s
returns-in_err-s c =
    let t = c.in_ok-t.ensures in
    stops _ _ _ c.from_residual-in_err-s.ensures
    (simp (jet_refusal, none_met _ _ t, told_rules) (unfold derivatives_c in simp (value_is _ _ t, none_met _ _ c.in_ok-v.ensures, none_met _ _ c.in_ok-slope.ensures, met_is _ _ c.in_err-s.ensures, told_rules)))

pub returns-in_err-bend : goal.returns-in_err-bend
returns-in_err-bend c =
    let t = c.in_ok-t.ensures in
    let s = c.in_ok-s.ensures in
    let e = simp (← value_is _ _ s) at c.in_err-bend.ensures in
    stops _ _ _ c.from_residual-in_err-bend.ensures
    (simp (jet_refusal, none_met _ _ t, told_rules) (unfold derivatives_c in simp (value_is _ _ t, none_met _ _ c.in_ok-v.ensures, none_met _ _ c.in_ok-slope.ensures, none_met _ _ s, met_is _ _ e, told_rules)))

pub returns : goal.returns
returns c =
    let t = c.in_ok-t.ensures in
    let s = c.in_ok-s.ensures in
    let e = simp (← value_is _ _ s) at c.in_ok-bend.ensures in
    gives _ _
    (simp (jet_refusal, none_met _ _ t, told_rules) (unfold derivatives_c in simp (value_is _ _ t, none_met _ _ c.in_ok-v.ensures, none_met _ _ c.in_ok-slope.ensures, none_met _ _ s, none_met _ _ e, told_rules)))
    (unfold derivatives_c in simp (value_is _ _ t, value_is _ _ c.in_ok-v.ensures, value_is _ _ c.in_ok-slope.ensures, value_is _ _ e))
