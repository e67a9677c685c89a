use Rattle.meets.specs.Generatrix.{second_derivatives_c}
use Rattle.checked.specs.ToldLaws.{stops, gives, none_met, value_is, met_is}
use Rattle.meets.specs.GeneratrixLaws.{bend_refusal}
use Rattle.meets.proofs.generatrix.bend_at.Goals as goal

pub returns-in_err-t2 : goal.returns-in_err-t2
returns-in_err-t2 c =
    let t = simp (c.dot-2.ensures, c.dot.ensures, c.dot-b2.ensures, c.across-w2.ensures, c.times-d2.ensures) at c.in_err-t2.ensures in
    stops _ _ _ c.from_residual.ensures (simp bend_refusal (unfold second_derivatives_c in simp (met_is _ _ t)))

pub returns : goal.returns
returns c =
    let t = simp (c.dot-2.ensures, c.dot.ensures, c.dot-b2.ensures, c.across-w2.ensures, c.times-d2.ensures) at c.in_ok-t2.ensures in
    gives _ _
    (simp bend_refusal (unfold second_derivatives_c in simp (none_met _ _ t)))
    (simp c.times-d2.ensures (unfold second_derivatives_c in simp (value_is _ _ t)))
