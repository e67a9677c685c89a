use Rattle.checked.specs.Checked.{eight}
use Rattle.checked.specs.Answers.{number_of}
use Rattle.checked.specs.ToldLaws.{exit_is, none_met, met_is, rules as told_rules}
use Rattle.libm.specs.SincosLaws.{meets_none}
use mathlib.Core.Path.{sym, ◌∙◌, ap}
use Rattle.libm.proofs.sincos.angle.Goals as goal

pub returns-then-is_within-clause-refusal : goal.returns-then-is_within-clause-refusal
returns-then-is_within-clause-refusal c = sym (meets_none _ (sym c.is_within.ensures ∙ c.if-is_within.true))

pub returns-in_err-finite-clause-refusal : goal.returns-in_err-finite-clause-refusal
returns-in_err-finite-clause-refusal c = ap number_of (exit_is _ _ c.from_residual.ensures) ∙ sym (simp (met_is _ _ c.in_err-finite.ensures, told_rules))

pub returns-in_ok-finite-clause-refusal : goal.returns-in_ok-finite-clause-refusal
unfolding eight
returns-in_ok-finite-clause-refusal c = simp (none_met _ _ c.in_ok-finite.ensures, sym c.is_within.ensures ∙ c.if-is_within.false, told_rules)
