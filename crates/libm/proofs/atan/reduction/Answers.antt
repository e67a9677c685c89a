use Rattle.libm.specs.Atan.{reduced}
use borrow.Author.Tests.{lt-ltb, le-ltb}
use Rattle.libm.proofs.atan.reduction.Goals as goal

pub returns-then-ix-lt1072037888 : goal.returns-then-ix-lt1072037888
unfolding reduced
returns-then-ix-lt1072037888 c = simp (lt-ltb _ _ c.if-ix-lt1072037888.true, lt-ltb _ _ c.if-ix-lt1072889856.true)

pub returns-else-ix-lt1072037888 : goal.returns-else-ix-lt1072037888
unfolding reduced
returns-else-ix-lt1072037888 c = simp (le-ltb _ _ c.if-ix-lt1072037888.false, lt-ltb _ _ c.if-ix-lt1072889856.true)

pub returns-then-ix-lt1073971200 : goal.returns-then-ix-lt1073971200
unfolding reduced
returns-then-ix-lt1073971200 c = simp (lt-ltb _ _ c.if-ix-lt1073971200.true, le-ltb _ _ c.if-ix-lt1072889856.false)

pub returns-else-ix-lt1073971200 : goal.returns-else-ix-lt1073971200
unfolding reduced
returns-else-ix-lt1073971200 c = simp (le-ltb _ _ c.if-ix-lt1073971200.false, le-ltb _ _ c.if-ix-lt1072889856.false)
