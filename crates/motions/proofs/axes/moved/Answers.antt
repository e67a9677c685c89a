use Rattle.motions.specs.Axes.{moved_c}
use Rattle.checked.specs.Laws.{first_zero}
use Rattle.checked.specs.ToldLaws.{stops, gives, none_met, value_is, met_is, rules as told_rules}
use Rattle.motions.specs.Laws.{rules as motions_rules}
use Rattle.motions.proofs.axes.moved.Goals as goal

pub returns-in_err-origin : goal.returns-in_err-origin
returns-in_err-origin c =
    let o = simp c.apply.ensures at c.in_err-origin.ensures in
    stops _ _ _ c.from_residual.ensures (unfold moved_c in simp (motions_rules, met_is _ _ o, told_rules))

pub returns-in_err-along : goal.returns-in_err-along
returns-in_err-along c =
    let o = simp c.apply.ensures at c.in_ok-origin.ensures in
    let a = simp c.apply_vector.ensures at c.in_err-along.ensures in
    stops _ _ _ c.from_residual-in_err-along.ensures (unfold moved_c in simp (motions_rules, none_met _ _ o, met_is _ _ a, first_zero, told_rules))

pub returns : goal.returns
returns c =
    let o = simp c.apply.ensures at c.in_ok-origin.ensures in
    let a = simp c.apply_vector.ensures at c.in_ok-along.ensures in
    gives _ _
    (unfold moved_c in simp (motions_rules, none_met _ _ o, none_met _ _ a, first_zero, told_rules))
    (unfold moved_c in simp (value_is _ _ o, value_is _ _ a))
