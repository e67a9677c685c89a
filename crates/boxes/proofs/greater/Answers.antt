use Rattle.boxes.specs.Boxes.{greater}
use Rattle.boxes.proofs.greater.Goals as goal

pub returns : goal.returns
unfolding greater
returns c = simp (c.greatest-3.ensures, c.greatest-2.ensures, c.greatest.ensures)
