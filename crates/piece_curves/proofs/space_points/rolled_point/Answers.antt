use Rattle.piece_curves.specs.SpacePoints.{rolled_c}
use Rattle.checked.specs.ToldLaws.{stops, follows, none_met, value_is, met_is, rules as told_rules}
use Rattle.piece_curves.proofs.space_points.rolled_point.Goals as goal

pub returns-in_err-p : goal.returns-in_err-p
returns-in_err-p c =
    stops _ _ _ c.from_residual.ensures
    (unfold rolled_c in simp (met_is _ _ c.in_err-p.ensures, told_rules))

pub returns : goal.returns
returns c =
    follows _ _ _ _ c.point.ensures
    (unfold rolled_c in simp (value_is _ _ c.in_ok-p.ensures, none_met _ _ c.in_ok-p.ensures, told_rules))
    (unfold rolled_c in simp (value_is _ _ c.in_ok-p.ensures))
