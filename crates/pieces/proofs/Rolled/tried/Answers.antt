use mathlib.Core.Path.{◌∙◌, ap}
use Rattle.checked.specs.Told.{failed}
use Rattle.checked.specs.ToldLaws.{exit_is, failed_and, rules as told_rules}
use Rattle.pieces.specs.Entries.{tests}
use Rattle.pieces.proofs.Rolled.tried.Goals as goal

pub returns-in_err-require : goal.returns-in_err-require
unfolding tests
returns-in_err-require c = simp (exit_is _ _ c.from_residual.ensures, ← c.in_err-require.ensures, ← c.is_within_limit.ensures, told_rules)

pub returns : goal.returns
unfolding tests
returns c =
    let both = simp (c.require_neutral-neutral.ensures, c.require-one_kind.ensures, c.are_both.ensures) at (failed_and c.require_neutral-neutral.result c.require-one_kind.result) in
    ap failed c.and.ensures ∙ both ∙ simp (← c.in_ok-require.ensures, ← c.is_within_limit.ensures, told_rules)
