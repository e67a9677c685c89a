use mathlib.Core.Path.{◌∙◌}
use Rattle.checked.specs.ToldLaws.{none_met, value_is, met_is, gives, stops, rules as told_rules}
use Rattle.integrals.specs.Integrands.{revolved_c}
use Rattle.integrals.specs.IntegrandsLaws.{revolved_refusal}
use Rattle.integrals.proofs.integrands.revolve.Goals as goal

pub returns-in_err-frame : goal.returns-in_err-frame
returns-in_err-frame c = stops _ _ _ c.from_residual.ensures (revolved_refusal _ _ ∙ rw (met_is _ _ c.in_err-frame.ensures) (simp told_rules))

pub returns-in_err-p0 : goal.returns-in_err-p0
returns-in_err-p0 c =
    let p = simp c.minus.ensures at c.in_err-p0.ensures in
    stops _ _ _ c.from_residual-in_err-p0.ensures (revolved_refusal _ _ ∙ (unfold revolved_c in rw (none_met _ _ c.in_ok-frame.ensures, met_is _ _ p) (simp told_rules)))

pub returns-in_err-stretch : goal.returns-in_err-stretch
returns-in_err-stretch c =
    let p = simp c.minus.ensures at c.in_ok-p0.ensures in
    let s = simp c.sqrt.ensures at c.in_err-stretch.ensures in
    stops _ _ _ c.from_residual-in_err-stretch.ensures (revolved_refusal _ _ ∙ (unfold revolved_c in rw (none_met _ _ c.in_ok-frame.ensures, none_met _ _ p, met_is _ _ s) (simp told_rules)))

pub returns : goal.returns
returns c =
    let p = simp c.minus.ensures at c.in_ok-p0.ensures in
    let s = simp c.sqrt.ensures at c.in_ok-stretch.ensures in
    gives _ _
    (revolved_refusal _ _ ∙ (unfold revolved_c in rw (none_met _ _ c.in_ok-frame.ensures, none_met _ _ p, none_met _ _ s) (simp told_rules)))
    (unfold revolved_c in simp (value_is _ _ c.in_ok-frame.ensures, value_is _ _ p, value_is _ _ s))
