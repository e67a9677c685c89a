use Rattle.order.specs.Order.{eq_self}
use Rattle.boxes.specs.Boxes.{numbers}
use Rattle.boxes.proofs.are_numbers.Goals as goal

pub returns : goal.returns
unfolding numbers
returns c = simp eq_self
