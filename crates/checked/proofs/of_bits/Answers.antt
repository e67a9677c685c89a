use lib.Ieee.{div, of_bits}
use Rattle.checked.specs.PatternLaws.{number_pattern, nan_pattern}
use Rattle.checked.proofs.of_bits.Goals as goal

pub float_from_bits-result : goal.float_from_bits-result
float_from_bits-result c = number_pattern c.args.b c.if-b-gt9218868437227405312.false

pub returns-then-b-gt9218868437227405312 : goal.returns-then-b-gt9218868437227405312
unfolding div of_bits
returns-then-b-gt9218868437227405312 c = nan_pattern c.args.b c.if-b-gt9218868437227405312.true
