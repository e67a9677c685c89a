use mathlib.Core.Path.{refl}
use Rattle.piece_lengths.specs.SecondDerivatives.{level_c}
use Rattle.piece_lengths.proofs.second_derivatives.level.Goals as goal

pub returns : goal.returns
unfolding level_c
returns c = refl
