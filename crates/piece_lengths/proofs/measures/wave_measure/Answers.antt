use borrow.Author.Rules.{rules}
use Rattle.piece_lengths.specs.Measures.{wave_run}
use Rattle.piece_lengths.proofs.measures.wave_measure.Goals as goal

pub returns : goal.returns
returns c = c.traced.ensures (wave_run c.args.ends.from c.args.ends.to c.args.ends.neutral c.args.w) (λ k p l h. search rules)
