use Rattle.std.specs.Prelude.{◌≡◌}
use Rattle.std.proofs.Common.{length}
use Rattle.checked.specs.Checked.{due, answered}
use Rattle.checked.specs.Loops.{fold_c}
use Rattle.piece_boxes.specs.MeetBoxes.{empty, step_c}
use Rattle.piece_boxes.specs.SampleRows.{Stored}
use Rattle.piece_boxes.proofs.meet_boxes.sampled.Given as goal

-- k samples are worked out and stored
abbrev pub invariant-loop-k : goal.invariant-loop-k
invariant-loop-k l =
    (length l.slopes ≡ 65)
    × (due l.ends ≡ answered (fold_c l.k (step_c l.c) empty))
    × Stored l.c l.k l.slopes
