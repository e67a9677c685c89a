use Rattle.piece_curves.specs.Points.{at_c}
use Rattle.piece_curves.proofs.points.at.Goals as goal

pub returns-in-Straight : goal.returns-in-Straight
unfolding at_c
returns-in-Straight c = simp (c.straight_at.ensures, c.in-Straight.is)

pub returns-in-Arc : goal.returns-in-Arc
unfolding at_c
returns-in-Arc c = simp (c.arc_at.ensures, c.in-Arc.is)

pub returns-in-Wave : goal.returns-in-Wave
unfolding at_c
returns-in-Wave c = simp (c.wave_at.ensures, c.in-Wave.is)

pub returns-in-Meet : goal.returns-in-Meet
unfolding at_c
returns-in-Meet c = simp (c.at.ensures, c.in-Meet.is)
