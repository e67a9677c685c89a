use Rattle.piece_boxes.specs.Brackets.{chosen}
use Rattle.piece_boxes.proofs.brackets.chosen.Goals as goal

pub returns-then-agree : goal.returns-then-agree
unfolding chosen
returns-then-agree c = simp (c.if-agree.true, ← c.agree.ensures)

pub returns-else-agree : goal.returns-else-agree
unfolding chosen
returns-else-agree c = simp (c.if-agree.false, ← c.agree.ensures)
