use Rattle.std.proofs.Common.{refl, rules}
use Rattle.pieces.specs.Laws.{mapped}
use Rattle.pieces.specs.Reversals.{turn_back}
use Rattle.pieces.proofs.parts.turn_back.Goals as goal

pub returns : goal.returns
unfolding turn_back
returns c = mapped turn_back _ refl (λ a. refl) _ _ _ c.map.ensures.cases (λ a b h. search rules)
