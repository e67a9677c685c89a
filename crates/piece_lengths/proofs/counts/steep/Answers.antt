use Rattle.piece_lengths.specs.Counts.{steep_c}
use Rattle.piece_lengths.proofs.counts.steep.Goals as goal

pub returns : goal.returns
unfolding steep_c
returns c = simp (c.sqrt.ensures, c.fabs.ensures)
