use Rattle.traces.specs.Traces.{v_c}
use Rattle.checked.specs.Laws.{first_zero}
use Rattle.checked.specs.ToldLaws.{exit_is, none_met, value_is, met_is, rules as told_rules}
use mathlib.Core.Path.{◌∙◌}
use Rattle.traces.proofs.Trace.v_by_formula.Goals as goal

pub returns-in_err-v-in-Wave : goal.returns-in_err-v-in-Wave
unfolding v_c
returns-in_err-v-in-Wave c = exit_is _ _ c.from_residual.ensures ∙ simp (c.in-Wave.is, met_is _ _ c.in_err-v-in-Wave.ensures, told_rules)

pub returns-in_ok-v-in-Wave : goal.returns-in_ok-v-in-Wave
unfolding v_c
returns-in_ok-v-in-Wave c = simp (c.in-Wave.is, none_met _ _ c.in_ok-v-in-Wave.ensures, value_is _ _ c.in_ok-v-in-Wave.ensures, first_zero, told_rules)

pub returns-in-Meet : goal.returns-in-Meet
unfolding v_c
returns-in-Meet c = simp (c.meet_v.ensures, c.in-Meet.is)
