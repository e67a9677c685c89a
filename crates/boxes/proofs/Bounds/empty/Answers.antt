use mathlib.Core.Path.{refl}
use lib.Ieee.{of_bits, neg, div}
use Rattle.boxes.proofs.Bounds.empty.Goals as goal

pub returns : goal.returns
unfolding of_bits neg div
returns c = refl
