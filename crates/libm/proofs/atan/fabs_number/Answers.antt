use Rattle.checked.specs.PatternLaws.{yes}
use Rattle.float_bits.specs.Laws.{fabs_bits, size_number}
use Rattle.libm.proofs.atan.fabs_number.Goals as goal

pub float_from_bits-result : goal.float_from_bits-result
float_from_bits-result c = size_number c.args.x (yes c.well_formed.0.1) c.requires

pub returns : goal.returns
returns c = fabs_bits c.args.x (yes c.well_formed.0.1)
