use Rattle.float_bits.specs.Laws.{chosen}
use Rattle.libm.proofs.atan2.in_quadrant.Goals as goal

pub returns : goal.returns
returns c = chosen c.args.m _ _ _ _ c.requires
