use Rattle.answer_lines.specs.Lines.{operation}
use borrow.Author.Tests.{le-leb, lt-leb}
use Rattle.answer_lines.proofs.operation.Goals as goal

pub returns-then-line-ge5 : goal.returns-then-line-ge5
unfolding operation
returns-then-line-ge5 c = simp (← c.pair.ensures, le-leb _ _ c.if-line-ge5.true)

pub returns-else-line-ge5 : goal.returns-else-line-ge5
unfolding operation
returns-else-line-ge5 c = simp (lt-leb _ _ c.if-line-ge5.false)
