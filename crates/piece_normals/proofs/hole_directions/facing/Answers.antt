use Rattle.piece_normals.specs.Directions.{facing}
use Rattle.piece_normals.proofs.hole_directions.facing.Goals as goal

pub returns-then-side : goal.returns-then-side
unfolding facing
returns-then-side c = simp c.if-side.true

pub returns-else-side : goal.returns-else-side
unfolding facing
returns-else-side c = simp c.if-side.false
