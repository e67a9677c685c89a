use Rattle.checked.specs.PatternLaws.{own_no_nan, yes}
use Rattle.float_bits.specs.Laws.{fabs_bits, size_number, fabs_of_nan}
use Rattle.float_bits.proofs.fabs.Goals as goal

pub float_to_bits-result : goal.float_to_bits-result
float_to_bits-result c = own_no_nan c.args.x c.if-x.false

pub float_from_bits-result : goal.float_from_bits-result
float_from_bits-result c = size_number c.args.x (yes c.well_formed.0.1) (own_no_nan c.args.x c.if-x.false)

pub returns-then-x : goal.returns-then-x
returns-then-x c = fabs_of_nan c.args.x c.if-x.true

pub returns-else-x : goal.returns-else-x
returns-else-x c = fabs_bits c.args.x (yes c.well_formed.0.1)
