use Rattle.curves.specs.Parts.{moved_arc_c}
use Rattle.checked.specs.ToldLaws.{stops, none_met, value_is, met_is, rules as told_rules}
use Rattle.curves.proofs.parts.moved_arc.Goals as goal

pub returns-in_err-x : goal.returns-in_err-x
unfolding moved_arc_c
returns-in_err-x c = stops _ _ _ c.from_residual.ensures (simp (met_is _ _ c.in_err-x.ensures, told_rules))

pub returns : goal.returns
unfolding moved_arc_c
returns c =
    let x = c.in_ok-x.ensures in
    simp (none_met _ _ x, value_is _ _ x, told_rules)
