use Rattle.piece_curves.specs.MeetCurves.{meet_curve_c}
use Rattle.checked.specs.ToldLaws.{stops, gives, none_met, value_is, met_is, rules as told_rules}
use Rattle.piece_curves.proofs.meet_curves.meet_curve.Goals as goal

pub returns-in_err-pipe : goal.returns-in_err-pipe
returns-in_err-pipe c =
    stops _ _ _ c.from_residual.ensures
    (unfold meet_curve_c in simp (met_is _ _ c.in_err-pipe.ensures, told_rules))

pub returns : goal.returns
returns c =
    gives _ _
    (unfold meet_curve_c in simp (none_met _ _ c.in_ok-pipe.ensures, told_rules))
    (unfold meet_curve_c in simp (value_is _ _ c.in_ok-pipe.ensures))
