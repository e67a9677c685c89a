use Rattle.checked.specs.ToldLaws.{exit_is, none_met, met_is, rules as told_rules}
use Rattle.vectors.specs.Laws.{nines_are}
use mathlib.Core.Path.{◌∙◌}
use Rattle.vectors.proofs.formula.finite3.Goals as goal

pub returns-in_err-finite : goal.returns-in_err-finite
returns-in_err-finite c = exit_is _ _ c.from_residual.ensures ∙ simp (nines_are, met_is _ _ c.in_err-finite.ensures, told_rules)

pub returns-in_err-finite-2 : goal.returns-in_err-finite-2
returns-in_err-finite-2 c = exit_is _ _ c.from_residual-in_err-finite-2.ensures ∙ simp (nines_are, none_met _ _ c.in_ok-finite.ensures, met_is _ _ c.in_err-finite-2.ensures, told_rules)

pub returns-in_err-finite-3 : goal.returns-in_err-finite-3
returns-in_err-finite-3 c = exit_is _ _ c.from_residual-in_err-finite-3.ensures ∙ simp (nines_are, none_met _ _ c.in_ok-finite.ensures, none_met _ _ c.in_ok-finite-2.ensures, met_is _ _ c.in_err-finite-3.ensures, told_rules)

pub returns : goal.returns
returns c = simp (nines_are, none_met _ _ c.in_ok-finite.ensures, none_met _ _ c.in_ok-finite-2.ensures, none_met _ _ c.in_ok-finite-3.ensures, told_rules)
