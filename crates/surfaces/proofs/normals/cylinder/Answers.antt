use mathlib.Core.Path.{◌∙◌}
use Rattle.surfaces.specs.Normals.{cylinder_c}
use Rattle.surfaces.specs.Laws.{cylinder_refusal}
use Rattle.checked.specs.ToldLaws.{stops, gives, none_met, value_is, met_is}
use Rattle.surfaces.proofs.normals.cylinder.Goals as goal

pub returns-in_err-r : goal.returns-in_err-r
returns-in_err-r c = stops _ _ _ c.from_residual.ensures (cylinder_refusal _ _ _ _ ∙ met_is _ _ c.in_err-r.ensures)

pub returns : goal.returns
returns c =
    let r = c.in_ok-r.ensures in
    gives _ _ (cylinder_refusal _ _ _ _ ∙ none_met _ _ r) (unfold cylinder_c in simp (value_is _ _ r, c.faced.ensures))
