use Rattle.std.proofs.Common.{rules}
use Rattle.float_bits.specs.FloatBits.{choose}
use Rattle.libm.specs.Sincos.{turned_sine}
use Rattle.libm.proofs.sincos.turned_sine.Goals as goal

pub returns-in-0 : goal.returns-in-0
unfolding turned_sine choose
returns-in-0 c = simp (c.k_sin.ensures, c.in-0.is)

pub returns-in-1 : goal.returns-in-1
unfolding turned_sine choose
returns-in-1 c = simp (c.k_cos.ensures, c.in-1.is)

pub returns-in-2 : goal.returns-in-2
unfolding turned_sine choose
returns-in-2 c = simp (c.k_sin-in-2.ensures, c.in-2.is)

pub returns-in_default : goal.returns-in_default
unfolding turned_sine choose
returns-in_default c = search rules
