use Rattle.float_bits.specs.FloatBits.{signed}
use borrow.Author.Tests.{eq-eqb, ne_eqb}
use Rattle.float_bits.proofs.signed.Goals as goal

pub returns-then-s-eq0 : goal.returns-then-s-eq0
unfolding signed
returns-then-s-eq0 c = simp (eq-eqb _ _ c.if-s-eq0.true)

pub returns-else-s-eq0 : goal.returns-else-s-eq0
unfolding signed
returns-else-s-eq0 c = simp (ne_eqb _ _ c.if-s-eq0.false)
