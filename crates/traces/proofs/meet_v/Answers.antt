use Rattle.traces.specs.Traces.{meet_c}
use Rattle.checked.specs.Laws.{first_zero}
use Rattle.checked.specs.ToldLaws.{exit_is, none_met, value_is, met_is, rules as told_rules}
use mathlib.Core.Path.{◌∙◌}
use Rattle.traces.proofs.meet_v.Goals as goal

pub returns-in_err-z-in-None : goal.returns-in_err-z-in-None
unfolding meet_c
returns-in_err-z-in-None c = exit_is _ _ c.from_residual.ensures ∙ simp (c.in-None.is, met_is _ _ c.in_err-z-in-None.ensures, told_rules)

pub returns-in_ok-z-in-None : goal.returns-in_ok-z-in-None
unfolding meet_c
returns-in_ok-z-in-None c = simp (c.in-None.is, none_met _ _ c.in_ok-z-in-None.ensures, value_is _ _ c.in_ok-z-in-None.ensures, first_zero, told_rules)

pub returns-in-Some : goal.returns-in-Some
unfolding meet_c
returns-in-Some c = simp (c.in-Some.is, told_rules)
