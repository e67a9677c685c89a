use Rattle.checked.specs.PatternLaws.{own_no_nan, upper_no_nan, upper_of_nan, yes}
use Rattle.checked.proofs.upper.Goals as goal

pub float_to_bits-b : goal.float_to_bits-b
float_to_bits-b c = own_no_nan c.args.x c.if-x.false

pub float_from_bits-result : goal.float_from_bits-result
float_from_bits-result c = upper_no_nan c.args.x (yes c.well_formed.0.1) c.if-x.false

pub returns-then-x : goal.returns-then-x
returns-then-x c = upper_of_nan c.args.x c.if-x.true
