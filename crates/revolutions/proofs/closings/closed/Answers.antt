use Rattle.checked.specs.TestsLaws.{passing_or}
use Rattle.checked.specs.ToldLaws.{fails_by, passes}
use Rattle.revolutions.specs.Closings.{close_due}
use Rattle.revolutions.proofs.closings.closed.Goals as goal

pub returns-in_err-require : goal.returns-in_err-require
unfolding close_due
returns-in_err-require c = simp (passing_or) (fails_by _ _ _ _ c.from_residual.ensures (simp c.is_within.ensures at c.in_err-require.ensures))

pub returns-in_err-require-2 : goal.returns-in_err-require-2
unfolding close_due
returns-in_err-require-2 c = simp (passing_or) (passes _ _ _ (simp c.is_within.ensures at c.in_ok-require.ensures) (fails_by _ _ _ _ c.from_residual-in_err-require-2.ensures (simp c.are_finite.ensures at c.in_err-require-2.ensures)))

pub returns : goal.returns
unfolding close_due
returns c = simp (passing_or) (passes _ _ _ (simp c.is_within.ensures at c.in_ok-require.ensures) (passes _ _ _ (simp c.are_finite.ensures at c.in_ok-require-2.ensures) c.joined.ensures))
