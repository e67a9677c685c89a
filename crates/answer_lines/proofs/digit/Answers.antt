use Rattle.answer_lines.specs.Lines.{digit}
use borrow.Author.Tests.{lt-ltb, le-ltb}
use Rattle.answer_lines.proofs.digit.Goals as goal

pub returns-then-b-lt97 : goal.returns-then-b-lt97
unfolding digit
returns-then-b-lt97 c = simp (lt-ltb _ _ c.if-b-lt97.true)

pub returns-else-b-lt97 : goal.returns-else-b-lt97
unfolding digit
returns-else-b-lt97 c = simp (le-ltb _ _ c.if-b-lt97.false)
