use Rattle.libm.specs.RemPio2.{to_nine}
use borrow.Author.Tests.{le-leb, lt-leb, eq-eqb, ne_eqb}
use Rattle.libm.proofs.rem_pio2.to_nine.Goals as goal

pub returns-then-ix-eq1074977148 : goal.returns-then-ix-eq1074977148
unfolding to_nine
returns-then-ix-eq1074977148 c = simp (c.medium.ensures, eq-eqb _ _ c.if-ix-eq1074977148.true, le-leb _ _ c.if-ix-le1075183036.true)

pub returns-then-sign-eq0 : goal.returns-then-sign-eq0
unfolding to_nine
returns-then-sign-eq0 c = simp (c.taken_off.ensures, eq-eqb _ _ c.if-sign-eq0.true, ← c.sign.ensures, ne_eqb _ _ c.if-ix-eq1074977148.false, le-leb _ _ c.if-ix-le1075183036.true)

pub returns-else-sign-eq0 : goal.returns-else-sign-eq0
unfolding to_nine
returns-else-sign-eq0 c = simp (c.added.ensures, ne_eqb _ _ c.if-sign-eq0.false, ← c.sign.ensures, ne_eqb _ _ c.if-ix-eq1074977148.false, le-leb _ _ c.if-ix-le1075183036.true)

pub returns-then-ix-eq1075388923 : goal.returns-then-ix-eq1075388923
unfolding to_nine
returns-then-ix-eq1075388923 c = simp (c.medium-then-ix-eq1075388923.ensures, eq-eqb _ _ c.if-ix-eq1075388923.true, lt-leb _ _ c.if-ix-le1075183036.false)

pub returns-then-sign-eq0-2 : goal.returns-then-sign-eq0-2
unfolding to_nine
returns-then-sign-eq0-2 c = simp (c.taken_off-then-sign-eq0-2.ensures, eq-eqb _ _ c.if-sign-eq0-2.true, ← c.sign-else-ix-eq1075388923.ensures, ne_eqb _ _ c.if-ix-eq1075388923.false, lt-leb _ _ c.if-ix-le1075183036.false)

pub returns-else-sign-eq0-2 : goal.returns-else-sign-eq0-2
unfolding to_nine
returns-else-sign-eq0-2 c = simp (c.added-else-sign-eq0-2.ensures, ne_eqb _ _ c.if-sign-eq0-2.false, ← c.sign-else-ix-eq1075388923.ensures, ne_eqb _ _ c.if-ix-eq1075388923.false, lt-leb _ _ c.if-ix-le1075183036.false)
