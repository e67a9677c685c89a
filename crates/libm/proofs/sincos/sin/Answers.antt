use Rattle.checked.specs.ToldLaws.{stops, gives}
use Rattle.libm.specs.Sincos.{sine_or_zero}
use Rattle.libm.specs.SincosLaws.{meets_none, within_where_none}
use mathlib.Core.Path.{sym}
use Rattle.libm.proofs.sincos.sin.Goals as goal

pub returns-in_err-angle : goal.returns-in_err-angle
returns-in_err-angle c = stops _ _ _ c.from_residual.ensures (sym c.in_err-angle.ensures.refusal)

pub returns : goal.returns
unfolding sine_or_zero
returns c =
    let is = within_where_none _ c.in_ok-angle.ensures.refusal in
    gives _ _ (meets_none _ is) (simp (is, c.sine.ensures, c.in_ok-angle.ensures.angle))
