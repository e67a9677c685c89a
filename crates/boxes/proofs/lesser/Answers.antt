use Rattle.boxes.specs.Boxes.{lesser}
use Rattle.boxes.proofs.lesser.Goals as goal

pub returns : goal.returns
unfolding lesser
returns c = simp (c.least-3.ensures, c.least-2.ensures, c.least.ensures)
