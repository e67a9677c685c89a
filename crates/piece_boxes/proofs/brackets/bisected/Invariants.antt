use Rattle.std.specs.Prelude.{◌≡◌}
use Rattle.checked.specs.Checked.{due, answered}
use Rattle.checked.specs.Loops.{fold_c}
use Rattle.piece_boxes.specs.Brackets.{bisect_c}
use Rattle.piece_boxes.proofs.brackets.bisected.Given as goal

-- what some halvings leave
abbrev pub invariant-loop : goal.invariant-loop
invariant-loop l = due l.a ≡ answered (fold_c l.counter (λ j b. bisect_c l.c l.upright l.rising b) l.initial.a)
