use Rattle.piece_curves.specs.SpacePoints.{wave_c}
use Rattle.checked.specs.ToldLaws.{stops, gives, none_met, value_is, met_is, rules as told_rules, tried}
use Rattle.piece_curves.specs.PointsLaws.{wave_place_refusal}
use Rattle.piece_curves.proofs.space_points.wave_point.Goals as goal

pub returns-in_err-u : goal.returns-in_err-u
returns-in_err-u c =
    stops _ _ _ c.from_residual.ensures
    (simp wave_place_refusal (unfold wave_c in simp (met_is _ _ c.in_err-u.ensures, told_rules)))

pub returns-in_err-v : goal.returns-in_err-v
returns-in_err-v c =
    stops _ _ _ c.from_residual-in_err-v.ensures
    (simp wave_place_refusal (unfold wave_c in simp (value_is _ _ c.in_ok-u.ensures, tried _ _ c.in_ok-u.ensures, met_is _ _ c.in_err-v.ensures, told_rules)))

pub returns : goal.returns
returns c =
    gives _ _
    (simp wave_place_refusal (unfold wave_c in simp (value_is _ _ c.in_ok-u.ensures, tried _ _ c.in_ok-u.ensures, none_met _ _ c.in_ok-v.ensures, told_rules)))
    (unfold wave_c in simp (value_is _ _ c.in_ok-u.ensures, value_is _ _ c.in_ok-v.ensures))
