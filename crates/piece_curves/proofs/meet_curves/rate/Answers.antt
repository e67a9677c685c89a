use Rattle.piece_curves.specs.MeetCurves.{rate_c}
use Rattle.piece_curves.proofs.meet_curves.rate.Goals as goal

pub returns-in-None : goal.returns-in-None
unfolding rate_c
returns-in-None c = simp c.in-None.is

pub returns-in-Some : goal.returns-in-Some
unfolding rate_c
returns-in-Some c = simp c.in-Some.is
