use Rattle.curves.specs.Drawn.{tests}
use Rattle.checked.specs.ToldLaws.{exit_is, rules as told_rules}
use Rattle.curves.proofs.drawn.tried.Goals as goal

pub returns-in_err-require : goal.returns-in_err-require
unfolding tests
returns-in_err-require c = simp (exit_is _ _ c.from_residual.ensures, ← c.in_err-require.ensures, ← c.is_within-2.ensures, ← c.is_within3-2.ensures, ← c.is_within3.ensures, ← c.is_within.ensures, told_rules)

pub returns-in_err-tried : goal.returns-in_err-tried
unfolding tests
returns-in_err-tried c = simp (exit_is _ _ c.from_residual-in_err-tried.ensures, ← c.in_err-tried.ensures, ← c.in_ok-require.ensures, ← c.is_within-2.ensures, ← c.is_within3-2.ensures, ← c.is_within3.ensures, ← c.is_within.ensures, told_rules)

pub returns : goal.returns
unfolding tests
returns c = simp (c.require_chord.ensures, ← c.in_ok-tried.ensures, ← c.in_ok-require.ensures, ← c.is_within-2.ensures, ← c.is_within3-2.ensures, ← c.is_within3.ensures, ← c.is_within.ensures, told_rules)
