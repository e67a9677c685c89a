use Rattle.checked.specs.PatternLaws.{ne_self}
use Rattle.float_bits.proofs.is_nan.Goals as goal

pub returns : goal.returns
returns c = ne_self c.args.x
