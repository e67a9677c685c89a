use Rattle.piece_curves.specs.Points.{swung_c}
use Rattle.checked.specs.ToldLaws.{stops, gives, none_met, value_is, met_is, rules as told_rules, tried}
use Rattle.piece_curves.specs.PointsLaws.{swung_refusal}
use Rattle.piece_curves.proofs.points.swing.Goals as goal

pub returns-in_err-dx : goal.returns-in_err-dx
returns-in_err-dx c =
    stops _ _ _ c.from_residual.ensures
    (simp swung_refusal (unfold swung_c in simp (met_is _ _ c.in_err-dx.ensures, told_rules)))

pub returns-in_err-dy : goal.returns-in_err-dy
returns-in_err-dy c =
    stops _ _ _ c.from_residual-in_err-dy.ensures
    (simp swung_refusal (unfold swung_c in simp (value_is _ _ c.in_ok-dx.ensures, tried _ _ c.in_ok-dx.ensures, met_is _ _ c.in_err-dy.ensures, told_rules)))

pub returns-in_err-phi : goal.returns-in_err-phi
returns-in_err-phi c =
    stops _ _ _ c.from_residual-in_err-phi.ensures
    (simp swung_refusal (unfold swung_c in simp (value_is _ _ c.in_ok-dx.ensures, tried _ _ c.in_ok-dx.ensures, value_is _ _ c.in_ok-dy.ensures, tried _ _ c.in_ok-dy.ensures, met_is _ _ c.in_err-phi.ensures, told_rules)))

pub returns-in_err-s : goal.returns-in_err-s
returns-in_err-s c =
    stops _ _ _ c.from_residual-in_err-s.ensures
    (simp swung_refusal (unfold swung_c in simp (value_is _ _ c.in_ok-dx.ensures, tried _ _ c.in_ok-dx.ensures, value_is _ _ c.in_ok-dy.ensures, tried _ _ c.in_ok-dy.ensures, value_is _ _ c.in_ok-phi.ensures, none_met _ _ c.in_ok-phi.ensures, met_is _ _ c.in_err-s.ensures, told_rules)))

pub returns-in_err-x : goal.returns-in_err-x
returns-in_err-x c =
    stops _ _ _ c.from_residual-in_err-x.ensures
    (simp swung_refusal (unfold swung_c in simp (value_is _ _ c.in_ok-dx.ensures, tried _ _ c.in_ok-dx.ensures, value_is _ _ c.in_ok-dy.ensures, tried _ _ c.in_ok-dy.ensures, value_is _ _ c.in_ok-phi.ensures, none_met _ _ c.in_ok-phi.ensures, value_is _ _ c.in_ok-s.ensures, none_met _ _ c.in_ok-s.ensures, met_is _ _ c.in_err-x.ensures, told_rules)))

pub returns-in_err-y : goal.returns-in_err-y
returns-in_err-y c =
    stops _ _ _ c.from_residual-in_err-y.ensures
    (simp swung_refusal (unfold swung_c in simp (value_is _ _ c.in_ok-dx.ensures, tried _ _ c.in_ok-dx.ensures, value_is _ _ c.in_ok-dy.ensures, tried _ _ c.in_ok-dy.ensures, value_is _ _ c.in_ok-phi.ensures, none_met _ _ c.in_ok-phi.ensures, value_is _ _ c.in_ok-s.ensures, none_met _ _ c.in_ok-s.ensures, value_is _ _ c.in_ok-x.ensures, tried _ _ c.in_ok-x.ensures, met_is _ _ c.in_err-y.ensures, told_rules)))

pub returns : goal.returns
returns c =
    gives _ _
    (simp swung_refusal (unfold swung_c in simp (value_is _ _ c.in_ok-dx.ensures, tried _ _ c.in_ok-dx.ensures, value_is _ _ c.in_ok-dy.ensures, tried _ _ c.in_ok-dy.ensures, value_is _ _ c.in_ok-phi.ensures, none_met _ _ c.in_ok-phi.ensures, value_is _ _ c.in_ok-s.ensures, none_met _ _ c.in_ok-s.ensures, value_is _ _ c.in_ok-x.ensures, tried _ _ c.in_ok-x.ensures, value_is _ _ c.in_ok-y.ensures, tried _ _ c.in_ok-y.ensures, told_rules)))
    (unfold swung_c in simp (value_is _ _ c.in_ok-dx.ensures, value_is _ _ c.in_ok-dy.ensures, value_is _ _ c.in_ok-phi.ensures, value_is _ _ c.in_ok-s.ensures, value_is _ _ c.in_ok-x.ensures, value_is _ _ c.in_ok-y.ensures))
