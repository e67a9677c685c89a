use Rattle.std.specs.Prelude.{◌≡◌}
use Rattle.checked.specs.Checked.{due, answered}
use Rattle.checked.specs.Loops.{fold_c}
use Rattle.checked.specs.Numbers.{zero}
use Rattle.piece_lengths.specs.Counts.{sample_c}
use Rattle.piece_lengths.proofs.counts.bend_of.Given as goal

-- the greatest of k samples
abbrev pub invariant-loop-k : goal.invariant-loop-k
invariant-loop-k l = due l.bend ≡ answered (fold_c l.k (sample_c l.c) zero)
