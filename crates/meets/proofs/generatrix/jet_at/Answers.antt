use Rattle.meets.specs.Generatrix.{derivatives_c}
use Rattle.checked.specs.ToldLaws.{stops, gives, none_met, value_is, met_is, rules as told_rules}
use Rattle.meets.specs.GeneratrixLaws.{jet_refusal}
use Rattle.meets.proofs.generatrix.jet_at.Goals as goal

pub returns-in_err-h : goal.returns-in_err-h
returns-in_err-h c =
    let h = c.in_err-h.ensures in
    stops _ _ _ c.from_residual.ensures (simp (jet_refusal, met_is _ _ h, told_rules))

pub returns-in_err-v : goal.returns-in_err-v
returns-in_err-v c =
    let h = c.in_ok-h.ensures in
    let v = c.in_err-v.ensures in
    stops _ _ _ c.from_residual-in_err-v.ensures (simp (jet_refusal, none_met _ _ h, value_is _ _ h, met_is _ _ v, told_rules))

pub returns-in_err-e : goal.returns-in_err-e
returns-in_err-e c =
    let h = c.in_ok-h.ensures in
    let v = c.in_ok-v.ensures in
    let e = c.in_err-e.ensures in
    stops _ _ _ c.from_residual-in_err-e.ensures (simp (jet_refusal, none_met _ _ h, value_is _ _ h, none_met _ _ v, value_is _ _ v, met_is _ _ e, told_rules))

pub returns-in_err-q : goal.returns-in_err-q
returns-in_err-q c =
    let h = c.in_ok-h.ensures in
    let v = c.in_ok-v.ensures in
    let e = c.in_ok-e.ensures in
    let q = simp c.ahead.ensures at c.in_err-q.ensures in
    stops _ _ _ c.from_residual-in_err-q.ensures
    (simp (jet_refusal, none_met _ _ h, value_is _ _ h, none_met _ _ v, value_is _ _ v, none_met _ _ e, told_rules) (unfold derivatives_c in simp (value_is _ _ h, value_is _ _ v, met_is _ _ q, told_rules)))

pub returns-in_err-q1 : goal.returns-in_err-q1
returns-in_err-q1 c =
    let h = c.in_ok-h.ensures in
    let v = c.in_ok-v.ensures in
    let e = c.in_ok-e.ensures in
    let q = simp c.ahead.ensures at c.in_ok-q.ensures in
    let q1 = simp c.ahead-2.ensures at c.in_err-q1.ensures in
    stops _ _ _ c.from_residual-in_err-q1.ensures
    (simp (jet_refusal, none_met _ _ h, value_is _ _ h, none_met _ _ v, value_is _ _ v, none_met _ _ e, told_rules) (unfold derivatives_c in simp (value_is _ _ h, value_is _ _ v, none_met _ _ q, met_is _ _ q1, told_rules)))

pub returns-in_err-q2 : goal.returns-in_err-q2
returns-in_err-q2 c =
    let h = c.in_ok-h.ensures in
    let v = c.in_ok-v.ensures in
    let e = c.in_ok-e.ensures in
    let q = simp c.ahead.ensures at c.in_ok-q.ensures in
    let q1 = simp c.ahead-2.ensures at c.in_ok-q1.ensures in
    let q2 = simp c.ahead-3.ensures at c.in_err-q2.ensures in
    stops _ _ _ c.from_residual-in_err-q2.ensures
    (simp (jet_refusal, none_met _ _ h, value_is _ _ h, none_met _ _ v, value_is _ _ v, none_met _ _ e, told_rules) (unfold derivatives_c in simp (value_is _ _ h, value_is _ _ v, value_is _ _ e, none_met _ _ q, none_met _ _ q1, met_is _ _ q2, told_rules)))

pub returns : goal.returns
returns c =
    let h = c.in_ok-h.ensures in
    let v = c.in_ok-v.ensures in
    let e = c.in_ok-e.ensures in
    let q = simp c.ahead.ensures at c.in_ok-q.ensures in
    let q1 = simp c.ahead-2.ensures at c.in_ok-q1.ensures in
    let q2 = simp c.ahead-3.ensures at c.in_ok-q2.ensures in
    gives _ _
    (simp (jet_refusal, none_met _ _ h, value_is _ _ h, none_met _ _ v, value_is _ _ v, none_met _ _ e, told_rules) (unfold derivatives_c in simp (value_is _ _ h, value_is _ _ v, value_is _ _ e, none_met _ _ q, none_met _ _ q1, none_met _ _ q2, told_rules)))
    (unfold derivatives_c in simp (value_is _ _ h, value_is _ _ v, value_is _ _ e, value_is _ _ q, value_is _ _ q1, value_is _ _ q2))
