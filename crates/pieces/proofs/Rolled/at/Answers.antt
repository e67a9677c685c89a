use Rattle.pieces.specs.Entries.{at_due}
use Rattle.checked.specs.ToldLaws.{fails_by, passes, rules as told_rules}
use Rattle.pieces.proofs.Rolled.at.Goals as goal

pub returns-in_err-require : goal.returns-in_err-require
unfolding at_due
returns-in_err-require c = fails_by _ _ _ _ c.from_residual.ensures (simp (← c.in_err-require.ensures, ← c.is_within.ensures, told_rules))

pub returns-in_err-tried : goal.returns-in_err-tried
unfolding at_due
returns-in_err-tried c = fails_by _ _ _ _ c.from_residual-in_err-tried.ensures (simp (← c.in_err-tried.ensures, ← c.in_ok-require.ensures, ← c.is_within.ensures, told_rules))

pub returns : goal.returns
unfolding at_due
returns c = passes _ _ _ (simp (← c.in_ok-tried.ensures, ← c.in_ok-require.ensures, ← c.is_within.ensures, told_rules)) c.at.ensures
