use Rattle.piece_curves.specs.MeetCurves.{slope_u_c}
use Rattle.checked.specs.ToldLaws.{rules as told_rules}
use Rattle.piece_curves.proofs.meet_curves.motion.Goals as goal

pub returns-in-None-clause-u : goal.returns-in-None-clause-u
unfolding slope_u_c
returns-in-None-clause-u c = simp (c.finite.ensures, c.in-None.is, told_rules)

pub returns-in-Some-clause-u : goal.returns-in-Some-clause-u
unfolding slope_u_c
returns-in-Some-clause-u c = simp (c.moved-m.ensures.u, c.in-Some.is)
