use Rattle.piece_normals.specs.Normals.{meet_c}
use Rattle.piece_normals.proofs.meet_direction.Goals as goal

pub returns-in-None : goal.returns-in-None
unfolding meet_c
returns-in-None c = simp (c.own_direction.ensures, c.in-None.is)

pub returns-in-Some : goal.returns-in-Some
unfolding meet_c
returns-in-Some c = simp (c.hole_direction.ensures, c.in-Some.is)
