use Rattle.libm.specs.Acos.{acos_near}
use borrow.Author.Tests.{le-leb, lt-leb}
use Rattle.libm.proofs.acos.acos_near.Goals as goal

pub returns-then-ix-le1012924416 : goal.returns-then-ix-le1012924416
unfolding acos_near
returns-then-ix-le1012924416 c = simp (le-leb _ _ c.if-ix-le1012924416.true)

pub returns-else-ix-le1012924416 : goal.returns-else-ix-le1012924416
unfolding acos_near
returns-else-ix-le1012924416 c = simp (c.ratio.ensures, lt-leb _ _ c.if-ix-le1012924416.false)
