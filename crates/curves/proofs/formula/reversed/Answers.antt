use Rattle.curves.specs.Curves.{reversed_c}
use Rattle.checked.specs.ToldLaws.{exit_is, none_met, value_is, met_is, rules as told_rules}
use mathlib.Core.Path.{◌∙◌}
use Rattle.curves.proofs.formula.reversed.Goals as goal

pub returns-in_err-reversed-in-Arc : goal.returns-in_err-reversed-in-Arc
unfolding reversed_c
returns-in_err-reversed-in-Arc c = exit_is _ _ c.from_residual.ensures ∙ simp (c.in-Arc.is, met_is _ _ c.in_err-reversed-in-Arc.ensures, told_rules)

pub returns-in_ok-reversed-in-Arc : goal.returns-in_ok-reversed-in-Arc
unfolding reversed_c
returns-in_ok-reversed-in-Arc c =
    let a = c.in_ok-reversed-in-Arc.ensures in
    simp (c.in-Arc.is, none_met _ _ a, value_is _ _ a, told_rules)

pub returns-in-Rolled : goal.returns-in-Rolled
unfolding reversed_c
returns-in-Rolled c = simp (c.reversed-in-Rolled.ensures, c.in-Rolled.is, told_rules)
