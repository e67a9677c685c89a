use Rattle.libm.specs.Hypot.{lesser}
use borrow.Author.Tests.{lt-ltb, le-ltb}
use Rattle.libm.proofs.hypot.lesser.Goals as goal

pub returns-then-p-q : goal.returns-then-p-q
unfolding lesser
returns-then-p-q c = simp (lt-ltb _ _ c.if-p-q.true)

pub returns-else-p-q : goal.returns-else-p-q
unfolding lesser
returns-else-p-q c = simp (le-ltb _ _ c.if-p-q.false)
