use Rattle.boxes.specs.Boxes.{widened}
use Rattle.boxes.proofs.Bounds.widened.Goals as goal

pub returns : goal.returns
unfolding widened
returns c = simp (c.greater.ensures, c.lesser.ensures)
