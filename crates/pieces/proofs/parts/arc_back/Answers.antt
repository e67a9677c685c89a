use Rattle.std.proofs.Common.{refl, rules}
use Rattle.pieces.specs.Laws.{mapped}
use Rattle.pieces.specs.Reversals.{arc_back}
use Rattle.pieces.proofs.parts.arc_back.Goals as goal

pub returns : goal.returns
unfolding arc_back
returns c = mapped arc_back _ refl (λ a. refl) _ _ _ c.map.ensures.cases (λ a b h. search rules)
