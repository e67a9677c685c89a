use Rattle.curves.specs.Entries.{tests}
use Rattle.checked.specs.ToldLaws.{exit_is, rules as told_rules}
use Rattle.curves.proofs.Curve.tried.Goals as goal

pub returns-in-Arc : goal.returns-in-Arc
unfolding tests
returns-in-Arc c = simp (c.require.ensures, c.circle_within.ensures, c.in-Arc.is)

pub returns-in_err-require-in-Rolled : goal.returns-in_err-require-in-Rolled
unfolding tests
returns-in_err-require-in-Rolled c = simp (exit_is _ _ c.from_residual.ensures, c.in-Rolled.is, ← c.in_err-require-in-Rolled.ensures, ← c.is_within.ensures, told_rules)

pub returns-in_ok-require-in-Rolled : goal.returns-in_ok-require-in-Rolled
unfolding tests
returns-in_ok-require-in-Rolled c = simp (c.tried.ensures, c.in-Rolled.is, ← c.in_ok-require-in-Rolled.ensures, ← c.is_within.ensures, told_rules)
