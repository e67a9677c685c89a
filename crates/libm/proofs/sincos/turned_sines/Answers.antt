use Rattle.libm.specs.Sincos.{turned_sines}
use Rattle.libm.proofs.sincos.turned_sines.Goals as goal

pub returns : goal.returns
unfolding turned_sines
returns c = simp (c.choose-2.ensures, c.choose.ensures, c.k_cos-c.ensures, c.k_sin-s.ensures)
