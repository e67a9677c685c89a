use borrow.Author.Tests.{eq-eqb, ne_eqb}
use Rattle.integrals.specs.Gauss.{lies}
use Rattle.integrals.proofs.lies.Goals as goal

pub returns-then-k-eq0 : goal.returns-then-k-eq0
unfolding lies
returns-then-k-eq0 c = simp (eq-eqb _ _ c.if-k-eq0.true)

pub returns-else-k-eq0 : goal.returns-else-k-eq0
unfolding lies
returns-else-k-eq0 c = simp (ne_eqb _ _ c.if-k-eq0.false)
