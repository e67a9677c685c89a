use Rattle.libm.specs.Atan2.{is_one}
use Rattle.libm.proofs.atan2.is_one.Goals as goal

pub returns : goal.returns
unfolding is_one
returns c = simp (← c.bits.ensures)
