use mathlib.Core.Path.{refl, ◌∙◌}
use Rattle.checked.specs.ToldLaws.{none_met, value_is, met_is, gives, stops, rules as told_rules}
use Rattle.walls.specs.Walls.{strip_c}
use Rattle.walls.specs.Laws.{strip_refusal}
use Rattle.walls.proofs.strip_of.Goals as goal

pub returns-in_err-hr : goal.returns-in_err-hr
returns-in_err-hr c =
    let hr = c.in_err-hr.ensures in
    stops _ _ _ c.from_residual.ensures (strip_refusal _ _ _ _ ∙ (unfold strip_c in rw (met_is _ _ hr) (simp told_rules)))

pub returns-in_err-mr : goal.returns-in_err-mr
returns-in_err-mr c =
    let hr = c.in_ok-hr.ensures in
    let mr = c.in_err-mr.ensures in
    stops _ _ _ c.from_residual-in_err-mr.ensures (strip_refusal _ _ _ _ ∙ (unfold strip_c in rw (none_met _ _ hr, met_is _ _ mr) (simp told_rules)))

pub returns-in_err-base : goal.returns-in_err-base
returns-in_err-base c =
    let hr = c.in_ok-hr.ensures in
    let mr = c.in_ok-mr.ensures in
    let base = simp (c.minus.ensures) at c.in_err-base.ensures in
    stops _ _ _ c.from_residual-in_err-base.ensures (strip_refusal _ _ _ _ ∙ (unfold strip_c in rw (none_met _ _ hr, none_met _ _ mr, met_is _ _ base) (simp told_rules)))

pub returns : goal.returns
returns c =
    let hr = c.in_ok-hr.ensures in
    let mr = c.in_ok-mr.ensures in
    let base = simp (c.minus.ensures) at c.in_ok-base.ensures in
    gives _ _
    (strip_refusal _ _ _ _ ∙ (unfold strip_c in rw (none_met _ _ hr, none_met _ _ mr, none_met _ _ base) (simp told_rules)))
    (unfold strip_c in rw (value_is _ _ hr, value_is _ _ mr, value_is _ _ base) refl)
