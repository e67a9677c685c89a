-- At each `return` the tests that led there say which case of the definition holds.
use lib.Ieee.{of_bits}
use denote.Floats.{passes}
use Rattle.order.specs.Least.{greatest}
use Rattle.order.specs.Value.{greatest_zeros, greatest_equals, greatest_nan}
use Rattle.order.proofs.greatest.Goals as goal

pub returns-then-a-b-2 : goal.returns-then-a-b-2
unfolding greatest
returns-then-a-b-2 c = simp c.if-a-b-2.true

pub returns-else-a-b-2 : goal.returns-else-a-b-2
unfolding greatest
returns-else-a-b-2 c = simp (c.if-a-b-2.false, simp c.if-a-b-2.false at c.if-a-b.true)

pub returns-then-a : goal.returns-then-a
unfolding of_bits
returns-then-a c =
    greatest_zeros _ _ c.if-a-b.false (passes _ c.well_formed.0.1) (passes _ c.well_formed.1.0.1) c.if-a-b-3.true c.if-a.true

pub returns-else-a : goal.returns-else-a
unfolding of_bits
returns-else-a c =
    greatest_equals _ _ c.if-a-b.false (passes _ c.well_formed.0.1) (passes _ c.well_formed.1.0.1) c.if-a-b-3.true c.if-a.false

pub returns : goal.returns
returns c = greatest_nan _ _ c.if-a-b.false c.if-a-b-3.false
