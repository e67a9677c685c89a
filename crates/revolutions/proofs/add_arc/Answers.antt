use Rattle.checked.specs.TestsLaws.{passing_or}
use Rattle.checked.specs.ToldLaws.{fails_by, passes}
use Rattle.revolutions.specs.Laws.{arc_answer, arc_is}
use Rattle.revolutions.proofs.add_arc.Goals as goal

pub returns-in_err-require : goal.returns-in_err-require
returns-in_err-require c = simp (arc_answer, arc_is, passing_or) (fails_by _ _ _ _ c.from_residual.ensures (simp c.arc_within.ensures at c.in_err-require.ensures))

pub returns-in_err-require-2 : goal.returns-in_err-require-2
returns-in_err-require-2 c = simp (arc_answer, arc_is, passing_or) (passes _ _ _ (simp c.arc_within.ensures at c.in_ok-require.ensures) (fails_by _ _ _ _ c.from_residual-in_err-require-2.ensures (simp c.is_finite.ensures at c.in_err-require-2.ensures)))

pub returns : goal.returns
returns c = simp (arc_answer, arc_is, passing_or) (passes _ _ _ (simp c.arc_within.ensures at c.in_ok-require.ensures) (passes _ _ _ (simp c.is_finite.ensures at c.in_ok-require-2.ensures) c.with_arc.ensures))
