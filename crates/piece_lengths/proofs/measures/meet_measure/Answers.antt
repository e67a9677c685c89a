use borrow.Author.Rules.{rules}
use Rattle.piece_lengths.specs.Measures.{followed}
use Rattle.piece_lengths.proofs.measures.meet_measure.Goals as goal

pub returns : goal.returns
returns c = c.traced.ensures (followed c.args.c) (λ k p l h. search rules)
