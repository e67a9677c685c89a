use Rattle.std.proofs.Common.{refl, rules}
use Rattle.pieces.specs.Laws.{tried}
use Rattle.pieces.specs.Tests.{followed_within}
use Rattle.pieces.proofs.parts.is_trace_within.Goals as goal

pub returns : goal.returns
unfolding followed_within
returns c = tried followed_within _ refl (λ a. refl) _ _ _ c.is_none_or.ensures (λ a h. search rules)
