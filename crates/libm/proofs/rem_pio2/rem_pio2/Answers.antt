use Rattle.libm.specs.RemPio2.{rem_pio2}
use borrow.Author.Tests.{le-leb, lt-leb}
use Rattle.libm.proofs.rem_pio2.rem_pio2.Goals as goal

pub returns-then-ix-le1074752122 : goal.returns-then-ix-le1074752122
unfolding rem_pio2
returns-then-ix-le1074752122 c = simp (c.to_five.ensures, le-leb _ _ c.if-ix-le1074752122.true, ← c.high_word-ix.ensures)

pub returns-then-ix-le1075594811 : goal.returns-then-ix-le1075594811
unfolding rem_pio2
returns-then-ix-le1075594811 c = simp (c.to_nine.ensures, le-leb _ _ c.if-ix-le1075594811.true, lt-leb _ _ c.if-ix-le1074752122.false, ← c.high_word-ix.ensures)

pub returns-else-ix-le1075594811 : goal.returns-else-ix-le1075594811
unfolding rem_pio2
returns-else-ix-le1075594811 c = simp (c.medium.ensures, lt-leb _ _ c.if-ix-le1075594811.false, lt-leb _ _ c.if-ix-le1074752122.false, ← c.high_word-ix.ensures)
