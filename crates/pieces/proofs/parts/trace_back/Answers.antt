use Rattle.std.proofs.Common.{refl, rules}
use Rattle.pieces.specs.Laws.{mapped}
use Rattle.pieces.specs.Reversals.{trace_back}
use Rattle.pieces.proofs.parts.trace_back.Goals as goal

pub returns : goal.returns
unfolding trace_back
returns c = mapped trace_back _ refl (λ a. refl) _ _ _ c.map.ensures.cases (λ a b h. search rules)
