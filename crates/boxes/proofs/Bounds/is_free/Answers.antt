use Rattle.boxes.specs.Boxes.{free}
use Rattle.boxes.proofs.Bounds.is_free.Goals as goal

pub returns : goal.returns
unfolding free
returns c = simp (c.are_numbers-2.ensures, c.are_numbers.ensures)
