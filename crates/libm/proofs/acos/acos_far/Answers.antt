use Rattle.libm.specs.Acos.{acos_far}
use borrow.Author.Tests.{eq-eqb, ne_eqb}
use Rattle.libm.proofs.acos.acos_far.Goals as goal

pub returns-then-sign-eq0 : goal.returns-then-sign-eq0
unfolding acos_far
returns-then-sign-eq0 c = simp (eq-eqb _ _ c.if-sign-eq0.true, ← c.sign.ensures, eq-eqb _ _ c.if-size-eq4607182418800017408.true, ← c.size.ensures)

pub returns-else-sign-eq0 : goal.returns-else-sign-eq0
unfolding acos_far
returns-else-sign-eq0 c = simp (ne_eqb _ _ c.if-sign-eq0.false, ← c.sign.ensures, eq-eqb _ _ c.if-size-eq4607182418800017408.true, ← c.size.ensures)

pub returns-else-size-eq4607182418800017408 : goal.returns-else-size-eq4607182418800017408
unfolding acos_far
returns-else-size-eq4607182418800017408 c = simp (ne_eqb _ _ c.if-size-eq4607182418800017408.false, ← c.size.ensures)
