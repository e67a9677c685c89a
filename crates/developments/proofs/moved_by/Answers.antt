use Rattle.developments.specs.Developments.{moved_c}
use Rattle.checked.specs.ToldLaws.{stops, gives, none_met, value_is, met_is, rules as told_rules}
use Rattle.motions.specs.Laws.{apply_nine, apply_vector_nine}
use Rattle.developments.proofs.moved_by.Goals as goal

pub returns-in_err-origin : goal.returns-in_err-origin
unfolding moved_c
returns-in_err-origin c =
    let o = simp c.apply.ensures at c.in_err-origin.ensures in
    stops _ _ _ c.from_residual.ensures (simp (apply_nine, met_is _ _ o, told_rules))

pub returns-in_err-axis : goal.returns-in_err-axis
unfolding moved_c
returns-in_err-axis c =
    let o = simp c.apply.ensures at c.in_ok-origin.ensures in
    let a = simp c.apply_vector.ensures at c.in_err-axis.ensures in
    stops _ _ _ c.from_residual-in_err-axis.ensures (simp (apply_nine, apply_vector_nine, none_met _ _ o, met_is _ _ a, told_rules))

pub returns-in_err-start : goal.returns-in_err-start
unfolding moved_c
returns-in_err-start c =
    let o = simp c.apply.ensures at c.in_ok-origin.ensures in
    let a = simp c.apply_vector.ensures at c.in_ok-axis.ensures in
    let s = simp c.apply_vector-2.ensures at c.in_err-start.ensures in
    stops _ _ _ c.from_residual-in_err-start.ensures (simp (apply_nine, apply_vector_nine, none_met _ _ o, none_met _ _ a, met_is _ _ s, told_rules))

pub returns : goal.returns
unfolding moved_c
returns c =
    let o = simp c.apply.ensures at c.in_ok-origin.ensures in
    let a = simp c.apply_vector.ensures at c.in_ok-axis.ensures in
    let s = simp c.apply_vector-2.ensures at c.in_ok-start.ensures in
    gives _ _ (simp (apply_nine, apply_vector_nine, none_met _ _ o, none_met _ _ a, none_met _ _ s, told_rules)) (simp (value_is _ _ o, value_is _ _ a, value_is _ _ s))
