use Rattle.libm.specs.RemPio2.{to_five}
use borrow.Author.Tests.{le-leb, lt-leb, eq-eqb, ne_eqb}
use Rattle.libm.proofs.rem_pio2.to_five.Goals as goal

pub returns-then-ix-eq598523 : goal.returns-then-ix-eq598523
unfolding to_five
returns-then-ix-eq598523 c = simp (c.medium.ensures, eq-eqb _ _ c.if-ix-eq598523.true)

pub returns-then-sign-eq0 : goal.returns-then-sign-eq0
unfolding to_five
returns-then-sign-eq0 c = simp (c.taken_off.ensures, eq-eqb _ _ c.if-sign-eq0.true, ← c.sign.ensures, le-leb _ _ c.if-ix-le1073928572.true, ne_eqb _ _ c.if-ix-eq598523.false)

pub returns-else-sign-eq0 : goal.returns-else-sign-eq0
unfolding to_five
returns-else-sign-eq0 c = simp (c.added.ensures, ne_eqb _ _ c.if-sign-eq0.false, ← c.sign.ensures, le-leb _ _ c.if-ix-le1073928572.true, ne_eqb _ _ c.if-ix-eq598523.false)

pub returns-then-sign-eq0-2 : goal.returns-then-sign-eq0-2
unfolding to_five
returns-then-sign-eq0-2 c = simp (c.taken_off-then-sign-eq0-2.ensures, eq-eqb _ _ c.if-sign-eq0-2.true, ← c.sign-else-ix-le1073928572.ensures, lt-leb _ _ c.if-ix-le1073928572.false, ne_eqb _ _ c.if-ix-eq598523.false)

pub returns-else-sign-eq0-2 : goal.returns-else-sign-eq0-2
unfolding to_five
returns-else-sign-eq0-2 c = simp (c.added-else-sign-eq0-2.ensures, ne_eqb _ _ c.if-sign-eq0-2.false, ← c.sign-else-ix-le1073928572.ensures, lt-leb _ _ c.if-ix-le1073928572.false, ne_eqb _ _ c.if-ix-eq598523.false)
