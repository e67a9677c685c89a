use Rattle.libm.specs.Sincos.{sine}
use borrow.Author.Tests.{le-leb, lt-leb}
use Rattle.libm.proofs.sincos.sine.Goals as goal

pub returns-then-ix-le1072243195 : goal.returns-then-ix-le1072243195
unfolding sine
returns-then-ix-le1072243195 c = simp (c.small_sine.ensures, le-leb _ _ c.if-ix-le1072243195.true, ← c.high_word-ix.ensures)

pub returns-else-ix-le1072243195 : goal.returns-else-ix-le1072243195
unfolding sine
returns-else-ix-le1072243195 c = simp (c.turned_sine.ensures, c.rem_pio2.ensures, lt-leb _ _ c.if-ix-le1072243195.false, ← c.high_word-ix.ensures)
