use mathlib.Core.Path.{refl, ◌∙◌}
use Rattle.checked.specs.ToldLaws.{none_met, value_is, met_is, gives, stops, rules as told_rules}
use Rattle.segments.specs.Segments.{added_c}
use Rattle.segments.specs.Laws.{added_refusal}
use Rattle.segments.proofs.formula.added.Goals as goal

pub returns-in_err-sum : goal.returns-in_err-sum
returns-in_err-sum c =
    let sum = simp (c.dot.ensures, c.minus.ensures) at c.in_err-sum.ensures in
    stops _ _ _ c.from_residual.ensures (added_refusal _ _ _ _ _ _ ∙ (unfold added_c in rw (met_is _ _ sum) (simp told_rules)))

pub returns-in_err-moment : goal.returns-in_err-moment
returns-in_err-moment c =
    let sum = simp (c.dot.ensures, c.minus.ensures) at c.in_ok-sum.ensures in
    let moment = simp (c.plus.ensures, c.times.ensures, c.minus-2.ensures, c.dot.ensures, c.minus.ensures) at c.in_err-moment.ensures in
    stops _ _ _ c.from_residual-in_err-moment.ensures (added_refusal _ _ _ _ _ _ ∙ (unfold added_c in rw (none_met _ _ sum, met_is _ _ moment) (simp told_rules)))

pub returns-in_err-area_vector : goal.returns-in_err-area_vector
returns-in_err-area_vector c =
    let sum = simp (c.dot.ensures, c.minus.ensures) at c.in_ok-sum.ensures in
    let moment = simp (c.plus.ensures, c.times.ensures, c.minus-2.ensures, c.dot.ensures, c.minus.ensures) at c.in_ok-moment.ensures in
    let area_vector = simp (c.plus-2.ensures, c.times-2.ensures) at c.in_err-area_vector.ensures in
    stops _ _ _ c.from_residual-in_err-area_vector.ensures (added_refusal _ _ _ _ _ _ ∙ (unfold added_c in rw (none_met _ _ sum, none_met _ _ moment, met_is _ _ area_vector) (simp told_rules)))

pub returns : goal.returns
returns c =
    let sum = simp (c.dot.ensures, c.minus.ensures) at c.in_ok-sum.ensures in
    let moment = simp (c.plus.ensures, c.times.ensures, c.minus-2.ensures, c.dot.ensures, c.minus.ensures) at c.in_ok-moment.ensures in
    let area_vector = simp (c.plus-2.ensures, c.times-2.ensures) at c.in_ok-area_vector.ensures in
    gives _ _
    (added_refusal _ _ _ _ _ _ ∙ (unfold added_c in rw (none_met _ _ sum, none_met _ _ moment, none_met _ _ area_vector) (simp told_rules)))
    (unfold added_c in rw (value_is _ _ sum, value_is _ _ moment, value_is _ _ area_vector) refl)
