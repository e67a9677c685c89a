use Rattle.piece_curves.specs.MeetCurves.{near_c}
use Rattle.piece_curves.proofs.meet_curves.near.Goals as goal

pub returns : goal.returns
unfolding near_c
returns c = simp (c.round.ensures, c.atan2.ensures)
