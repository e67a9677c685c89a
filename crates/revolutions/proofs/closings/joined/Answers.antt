use mathlib.Core.Path.{ap, ◌∙◌}
use Rattle.checked.specs.ToldLaws.{none_met, value_is, met_is, gives, stops}
use Rattle.integrals.specs.declared.SurfaceIntegrals.{SurfaceIntegrals}
use Rattle.revolutions.specs.Closings.{close_c}
use Rattle.revolutions.specs.ClosingsLaws.{close_refusal}
use Rattle.revolutions.proofs.closings.joined.Goals as goal

pub returns-in_err-surface : goal.returns-in_err-surface
returns-in_err-surface c =
    let s = simp (c.sigma.ensures, c.plus-area_vector.ensures, c.plus-moment.ensures) at c.in_err-surface.ensures in
    stops _ _ _ c.from_residual.ensures (close_refusal _ _ _ ∙ (unfold close_c in met_is _ _ s))

pub returns : goal.returns
returns c =
    let s = simp (c.sigma.ensures, c.plus-area_vector.ensures, c.plus-moment.ensures) at c.in_ok-surface.ensures in
    gives _ _ (close_refusal _ _ _ ∙ (unfold close_c in none_met _ _ s)) (unfold close_c in ap (λ (t : SurfaceIntegrals). record { surface = t }) (value_is _ _ s))
