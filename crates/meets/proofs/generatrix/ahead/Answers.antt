use Rattle.meets.specs.Generatrix.{along_generatrix_c}
use Rattle.meets.proofs.generatrix.ahead.Goals as goal

pub returns : goal.returns
unfolding along_generatrix_c
returns c = simp (c.plus.ensures, c.times.ensures)
