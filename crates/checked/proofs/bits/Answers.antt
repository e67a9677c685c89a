use Rattle.checked.specs.PatternLaws.{nan_bits_lem, own_no_nan}
use Rattle.checked.proofs.bits.Goals as goal

pub float_to_bits-result : goal.float_to_bits-result
float_to_bits-result c = own_no_nan c.args.x c.if-x.false

pub returns-then-x : goal.returns-then-x
returns-then-x c = nan_bits_lem c.args.x c.if-x.true
