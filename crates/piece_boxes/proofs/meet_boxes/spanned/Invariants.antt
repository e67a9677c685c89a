use Rattle.std.specs.Prelude.{◌≡◌}
use Rattle.checked.specs.Checked.{due, answered}
use Rattle.checked.specs.Loops.{fold_c}
use Rattle.piece_boxes.specs.MeetBoxes.{span_c}
use Rattle.piece_boxes.proofs.meet_boxes.spanned.Given as goal

-- the box after k windows
abbrev pub invariant-loop-k : goal.invariant-loop-k
invariant-loop-k l = due l.b ≡ answered (fold_c l.k (span_c l.c) l.initial.b)
