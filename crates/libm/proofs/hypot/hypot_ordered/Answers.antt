use Rattle.float_bits.specs.Laws.{gap_yes, gap_no}
use Rattle.libm.specs.Hypot.{hypot_ordered}
use borrow.Author.Tests.{lt-ltb, le-ltb, eq-eqb, ne_eqb}
use Rattle.libm.proofs.hypot.hypot_ordered.Goals as goal

pub returns-then-ey-eq2047 : goal.returns-then-ey-eq2047
unfolding hypot_ordered
returns-then-ey-eq2047 c = simp (eq-eqb _ _ c.if-ey-eq2047.true, c.of_bits-y.ensures)

pub returns-then-ex-uy : goal.returns-then-ex-uy
unfolding hypot_ordered
returns-then-ex-uy c = simp (c.if-ex-uy.true, ne_eqb _ _ c.if-ey-eq2047.false, c.of_bits-x.ensures)

pub returns-then-ey-ex : goal.returns-then-ey-ex
unfolding hypot_ordered
returns-then-ey-ex c = simp (gap_yes _ _ _ c.if-ey-ex.true, c.if-ex-uy.false, ne_eqb _ _ c.if-ey-eq2047.false, c.of_bits-y.ensures, c.of_bits-x.ensures)

pub returns-then-ex-gt1533 : goal.returns-then-ex-gt1533
unfolding hypot_ordered
returns-then-ex-gt1533 c = simp (c.scaled.ensures, lt-ltb _ _ c.if-ex-gt1533.true, gap_no _ _ _ c.if-ey-ex.false, c.if-ex-uy.false, ne_eqb _ _ c.if-ey-eq2047.false, c.of_bits-y.ensures, c.of_bits-x.ensures)

pub returns-then-ey-lt573 : goal.returns-then-ey-lt573
unfolding hypot_ordered
returns-then-ey-lt573 c = simp (c.scaled-then-ey-lt573.ensures, lt-ltb _ _ c.if-ey-lt573.true, le-ltb _ _ c.if-ex-gt1533.false, gap_no _ _ _ c.if-ey-ex.false, c.if-ex-uy.false, ne_eqb _ _ c.if-ey-eq2047.false, c.of_bits-y.ensures, c.of_bits-x.ensures)

pub returns-else-ey-lt573 : goal.returns-else-ey-lt573
unfolding hypot_ordered
returns-else-ey-lt573 c = simp (c.scaled-else-ey-lt573.ensures, le-ltb _ _ c.if-ey-lt573.false, le-ltb _ _ c.if-ex-gt1533.false, gap_no _ _ _ c.if-ey-ex.false, c.if-ex-uy.false, ne_eqb _ _ c.if-ey-eq2047.false, c.of_bits-y.ensures, c.of_bits-x.ensures)
