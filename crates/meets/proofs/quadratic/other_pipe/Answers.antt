use Rattle.meets.specs.Quadratic.{other_c}
use Rattle.checked.specs.ToldLaws.{stops, gives, none_met, value_is, met_is, rules as told_rules}
use Rattle.meets.specs.QuadraticLaws.{other_refusal}
use Rattle.meets.proofs.quadratic.other_pipe.Goals as goal

pub returns-in_err-e1 : goal.returns-in_err-e1
returns-in_err-e1 c =
    let u = simp c.cross.ensures at c.in_err-e1.ensures in
    stops _ _ _ c.from_residual.ensures (simp (other_refusal, met_is _ _ u, told_rules))

pub returns-in_err-e2 : goal.returns-in_err-e2
returns-in_err-e2 c =
    let u = simp c.cross.ensures at c.in_ok-e1.ensures in
    let e = simp c.cross-2.ensures at c.in_err-e2.ensures in
    stops _ _ _ c.from_residual-in_err-e2.ensures
    (simp (other_refusal, none_met _ _ u, told_rules) (unfold other_c in simp (value_is _ _ u, met_is _ _ e)))

pub returns : goal.returns
returns c =
    let u = simp c.cross.ensures at c.in_ok-e1.ensures in
    let e = simp c.cross-2.ensures at c.in_ok-e2.ensures in
    gives _ _
    (simp (other_refusal, none_met _ _ u, told_rules) (unfold other_c in simp (value_is _ _ u, none_met _ _ e)))
    (unfold other_c in simp (value_is _ _ u, value_is _ _ e))
