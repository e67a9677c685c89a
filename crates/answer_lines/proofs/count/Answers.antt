use Rattle.answer_lines.specs.Lines.{count}
use borrow.Author.Tests.{eq-eqb, ne_eqb}
use Rattle.answer_lines.proofs.count.Goals as goal

pub returns-then-line-eq5 : goal.returns-then-line-eq5
unfolding count
returns-then-line-eq5 c = simp (eq-eqb _ _ c.if-line-eq5.true)

pub returns-else-line-eq5 : goal.returns-else-line-eq5
unfolding count
returns-else-line-eq5 c = simp (ne_eqb _ _ c.if-line-eq5.false)
