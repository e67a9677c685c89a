use Rattle.meets.specs.Generatrix.{first_derivatives_c}
use Rattle.checked.specs.ToldLaws.{stops, gives, none_met, value_is, met_is}
use Rattle.meets.specs.GeneratrixLaws.{speed_refusal}
use Rattle.meets.proofs.generatrix.speed_at.Goals as goal

pub returns-in_err-t1 : goal.returns-in_err-t1
returns-in_err-t1 c =
    let t = simp (c.dot-c1.ensures, c.dot-b1.ensures, c.across-w1.ensures, c.times-d1.ensures, c.minus.ensures, c.times-2.ensures, c.times.ensures) at c.in_err-t1.ensures in
    stops _ _ _ c.from_residual.ensures (simp speed_refusal (unfold first_derivatives_c in simp (met_is _ _ t)))

pub returns : goal.returns
returns c =
    let t = simp (c.dot-c1.ensures, c.dot-b1.ensures, c.across-w1.ensures, c.times-d1.ensures, c.minus.ensures, c.times-2.ensures, c.times.ensures) at c.in_ok-t1.ensures in
    gives _ _
    (simp speed_refusal (unfold first_derivatives_c in simp (none_met _ _ t)))
    (simp (c.dot-b1.ensures, c.across-w1.ensures, c.times-d1.ensures, c.minus.ensures, c.times-2.ensures, c.times.ensures) (unfold first_derivatives_c in simp (value_is _ _ t)))
