use mathlib.Core.Path.{◌∙◌}
use Rattle.motions.specs.Motions.{rows_nine}
use Rattle.checked.specs.ToldLaws.{exit_is, none_met, met_is, rules as told_rules}
use Rattle.motions.proofs.formula.finite_rows.Goals as goal

pub returns-in_err-finite3 : goal.returns-in_err-finite3
unfolding rows_nine
returns-in_err-finite3 c = exit_is _ _ c.from_residual.ensures ∙ simp (met_is _ _ c.in_err-finite3.ensures, told_rules)

pub returns-in_err-finite3-2 : goal.returns-in_err-finite3-2
unfolding rows_nine
returns-in_err-finite3-2 c = exit_is _ _ c.from_residual-in_err-finite3-2.ensures ∙ simp (none_met _ _ c.in_ok-finite3.ensures, met_is _ _ c.in_err-finite3-2.ensures, told_rules)

pub returns-in_err-finite3-3 : goal.returns-in_err-finite3-3
unfolding rows_nine
returns-in_err-finite3-3 c = exit_is _ _ c.from_residual-in_err-finite3-3.ensures ∙ simp (none_met _ _ c.in_ok-finite3.ensures, none_met _ _ c.in_ok-finite3-2.ensures, met_is _ _ c.in_err-finite3-3.ensures, told_rules)

pub returns : goal.returns
unfolding rows_nine
returns c = simp (none_met _ _ c.in_ok-finite3.ensures, none_met _ _ c.in_ok-finite3-2.ensures, none_met _ _ c.in_ok-finite3-3.ensures, told_rules)
