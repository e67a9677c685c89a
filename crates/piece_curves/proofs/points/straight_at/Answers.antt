use Rattle.piece_curves.specs.Points.{straight_c}
use Rattle.checked.specs.ToldLaws.{stops, gives, value_is, met_is, rules as told_rules, tried}
use Rattle.piece_curves.specs.PointsLaws.{straight_refusal}
use Rattle.piece_curves.proofs.points.straight_at.Goals as goal

pub returns-in_err-dx : goal.returns-in_err-dx
returns-in_err-dx c =
    stops _ _ _ c.from_residual.ensures
    (simp straight_refusal (unfold straight_c in simp (met_is _ _ c.in_err-dx.ensures, told_rules)))

pub returns-in_err-dy : goal.returns-in_err-dy
returns-in_err-dy c =
    stops _ _ _ c.from_residual-in_err-dy.ensures
    (simp straight_refusal (unfold straight_c in simp (value_is _ _ c.in_ok-dx.ensures, tried _ _ c.in_ok-dx.ensures, met_is _ _ c.in_err-dy.ensures, told_rules)))

pub returns-in_err-x : goal.returns-in_err-x
returns-in_err-x c =
    stops _ _ _ c.from_residual-in_err-x.ensures
    (simp straight_refusal (unfold straight_c in simp (value_is _ _ c.in_ok-dx.ensures, tried _ _ c.in_ok-dx.ensures, value_is _ _ c.in_ok-dy.ensures, tried _ _ c.in_ok-dy.ensures, met_is _ _ c.in_err-x.ensures, told_rules)))

pub returns-in_err-y : goal.returns-in_err-y
returns-in_err-y c =
    stops _ _ _ c.from_residual-in_err-y.ensures
    (simp straight_refusal (unfold straight_c in simp (value_is _ _ c.in_ok-dx.ensures, tried _ _ c.in_ok-dx.ensures, value_is _ _ c.in_ok-dy.ensures, tried _ _ c.in_ok-dy.ensures, value_is _ _ c.in_ok-x.ensures, tried _ _ c.in_ok-x.ensures, met_is _ _ c.in_err-y.ensures, told_rules)))

pub returns : goal.returns
returns c =
    gives _ _
    (simp straight_refusal (unfold straight_c in simp (value_is _ _ c.in_ok-dx.ensures, tried _ _ c.in_ok-dx.ensures, value_is _ _ c.in_ok-dy.ensures, tried _ _ c.in_ok-dy.ensures, value_is _ _ c.in_ok-x.ensures, tried _ _ c.in_ok-x.ensures, value_is _ _ c.in_ok-y.ensures, tried _ _ c.in_ok-y.ensures, told_rules)))
    (unfold straight_c in simp (value_is _ _ c.in_ok-dx.ensures, value_is _ _ c.in_ok-dy.ensures, value_is _ _ c.in_ok-x.ensures, value_is _ _ c.in_ok-y.ensures))
