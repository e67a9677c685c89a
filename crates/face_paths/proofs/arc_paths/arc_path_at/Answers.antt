use mathlib.Core.Path.{refl, ◌∙◌}
use Rattle.checked.specs.ToldLaws.{none_met, value_is, met_is, gives, stops}
use Rattle.face_paths.specs.ArcPaths.{arc_path_at}
use Rattle.face_paths.specs.Laws.{arc_at_refusal}
use Rattle.face_paths.proofs.arc_paths.arc_path_at.Goals as goal

pub returns-in_err-theta : goal.returns-in_err-theta
returns-in_err-theta c = stops _ _ _ c.from_residual.ensures (arc_at_refusal _ _ ∙ met_is _ _ c.in_err-theta.ensures)

pub returns : goal.returns
returns c =
    let theta = c.in_ok-theta.ensures in
    gives _ _ (arc_at_refusal _ _ ∙ none_met _ _ theta) (unfold arc_path_at in rw (value_is _ _ theta) refl)
