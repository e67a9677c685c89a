use mathlib.Core.Path.{◌≡◌, refl}
use mathlib.Core.Bool.{true, false, ◌&&◌}
use lib.Ieee.{Float, nan, inf, fin, lt, of_bits, neg, div}
use Rattle.checked.specs.Checked.{is_finite}
use Rattle.checked.proofs.is_finite.Goals as goal

between : (x : Float) → (lt (inf true) x && lt x (inf false)) ≡ is_finite x
unfolding lt is_finite
between nan = refl
between (inf true) = refl
between (inf false) = refl
between (fin s m e) = refl

pub returns : goal.returns
unfolding div of_bits neg
returns c = between c.args.x
