use Rattle.checked.specs.ToldLaws.{rules as told_rules}
use Rattle.piece_lengths.specs.SecondDerivatives.{second_c}
use Rattle.piece_lengths.proofs.second_derivatives.second.Goals as goal

pub returns-in-Straight : goal.returns-in-Straight
unfolding second_c
returns-in-Straight c = simp (c.in-Straight.is, told_rules)

pub returns-in-Arc : goal.returns-in-Arc
unfolding second_c
returns-in-Arc c = simp c.in-Arc.is c.arc_second.ensures

pub returns-in-Wave : goal.returns-in-Wave
unfolding second_c
returns-in-Wave c = simp c.in-Wave.is c.wave_second.ensures

pub returns-in-Meet : goal.returns-in-Meet
unfolding second_c
returns-in-Meet c = simp c.in-Meet.is c.meet_second.ensures
