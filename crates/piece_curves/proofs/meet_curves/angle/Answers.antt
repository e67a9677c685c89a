use Rattle.piece_curves.specs.MeetCurves.{angle_c}
use Rattle.piece_curves.proofs.meet_curves.angle.Goals as goal

pub returns-in-None : goal.returns-in-None
unfolding angle_c
returns-in-None c = simp c.in-None.is

pub returns-in-Some : goal.returns-in-Some
unfolding angle_c
returns-in-Some c = simp c.in-Some.is
