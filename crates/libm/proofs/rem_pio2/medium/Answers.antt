use Rattle.float_bits.specs.Laws.{gap_yes, gap_no}
use Rattle.libm.proofs.rem_pio2.Quarters.{tmp_no_nan, tmp_ends}
use Rattle.libm.specs.RemPio2.{medium}
use Rattle.libm.proofs.rem_pio2.medium.Goals as goal

pub float_to_bits-quarter : goal.float_to_bits-quarter
float_to_bits-quarter c = tmp_no_nan c.args.a.x c.args.a.within

pub returns-then-exponent-ex : goal.returns-then-exponent-ex
unfolding medium
returns-then-exponent-ex c = simp (c.second_round.ensures, gap_yes _ _ _ c.if-exponent-ex.true, tmp_ends c.args.a.x c.args.a.within, ← c.exponent.ensures)

pub returns-else-exponent-ex : goal.returns-else-exponent-ex
unfolding medium
returns-else-exponent-ex c = simp (c.parted.ensures, gap_no _ _ _ c.if-exponent-ex.false, tmp_ends c.args.a.x c.args.a.within, ← c.exponent.ensures)
