use Rattle.libm.specs.Sincos.{sines}
use borrow.Author.Tests.{le-leb, lt-leb}
use Rattle.libm.proofs.sincos.both_sines.Goals as goal

pub returns-then-ix-le1072243195 : goal.returns-then-ix-le1072243195
unfolding sines
returns-then-ix-le1072243195 c = simp (c.small_sines.ensures, le-leb _ _ c.if-ix-le1072243195.true, ← c.high_word-ix.ensures)

pub returns-else-ix-le1072243195 : goal.returns-else-ix-le1072243195
unfolding sines
returns-else-ix-le1072243195 c = simp (c.turned_sines.ensures, c.rem_pio2.ensures, lt-leb _ _ c.if-ix-le1072243195.false, ← c.high_word-ix.ensures)
