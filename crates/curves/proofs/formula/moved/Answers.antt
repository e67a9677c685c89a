use Rattle.curves.specs.Curves.{moved_c}
use Rattle.checked.specs.ToldLaws.{exit_is, none_met, value_is, met_is, rules as told_rules}
use mathlib.Core.Path.{◌∙◌}
use Rattle.curves.proofs.formula.moved.Goals as goal

pub returns-in_err-moved_arc-in-Arc : goal.returns-in_err-moved_arc-in-Arc
unfolding moved_c
returns-in_err-moved_arc-in-Arc c = exit_is _ _ c.from_residual.ensures ∙ simp (c.in-Arc.is, met_is _ _ c.in_err-moved_arc-in-Arc.ensures, told_rules)

pub returns-in_ok-moved_arc-in-Arc : goal.returns-in_ok-moved_arc-in-Arc
unfolding moved_c
returns-in_ok-moved_arc-in-Arc c =
    let a = c.in_ok-moved_arc-in-Arc.ensures in
    simp (c.in-Arc.is, none_met _ _ a, value_is _ _ a, told_rules)

pub returns-in_err-moved_piece-in-Rolled : goal.returns-in_err-moved_piece-in-Rolled
unfolding moved_c
returns-in_err-moved_piece-in-Rolled c = exit_is _ _ c.from_residual-in_err-moved_piece-in-Rolled.ensures ∙ simp (c.in-Rolled.is, met_is _ _ c.in_err-moved_piece-in-Rolled.ensures, told_rules)

pub returns-in_ok-moved_piece-in-Rolled : goal.returns-in_ok-moved_piece-in-Rolled
unfolding moved_c
returns-in_ok-moved_piece-in-Rolled c =
    let p = c.in_ok-moved_piece-in-Rolled.ensures in
    simp (c.in-Rolled.is, none_met _ _ p, value_is _ _ p, told_rules)
