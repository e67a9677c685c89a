use Rattle.float_bits.specs.Laws.{gap_yes, gap_no}
use Rattle.libm.specs.RemPio2.{second_round}
use Rattle.libm.proofs.rem_pio2.second_round.Goals as goal

pub returns-then-exponent-ex : goal.returns-then-exponent-ex
unfolding second_round
returns-then-exponent-ex c = simp (c.third_round.ensures, gap_yes _ _ _ c.if-exponent-ex.true, ← c.exponent.ensures)

pub returns-else-exponent-ex : goal.returns-else-exponent-ex
unfolding second_round
returns-else-exponent-ex c = simp (c.parted.ensures, gap_no _ _ _ c.if-exponent-ex.false, ← c.exponent.ensures)
