use Rattle.meets.specs.Quadratic.{own_c}
use Rattle.checked.specs.ToldLaws.{stops, gives, none_met, value_is, met_is}
use Rattle.meets.specs.QuadraticLaws.{own_refusal}
use Rattle.meets.proofs.quadratic.own_pipe.Goals as goal

pub returns-in_err-a : goal.returns-in_err-a
returns-in_err-a c =
    let a = simp c.times.ensures at c.in_err-a.ensures in
    stops _ _ _ c.from_residual.ensures (simp own_refusal (unfold own_c in simp (met_is _ _ a)))

pub returns : goal.returns
returns c =
    let a = simp c.times.ensures at c.in_ok-a.ensures in
    gives _ _ (simp own_refusal (unfold own_c in simp (none_met _ _ a))) (unfold own_c in simp (value_is _ _ a))
