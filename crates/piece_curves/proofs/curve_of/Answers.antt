use Rattle.piece_curves.specs.PieceCurves.{curve_c}
use Rattle.checked.specs.ToldLaws.{stops, gives, none_met, value_is, met_is, rules as told_rules}
use Rattle.piece_curves.proofs.curve_of.Goals as goal

pub returns-in_err-way : goal.returns-in_err-way
returns-in_err-way c =
    stops _ _ _ c.from_residual.ensures
    (unfold curve_c in simp (met_is _ _ c.in_err-way.ensures, told_rules))

pub returns : goal.returns
returns c =
    gives _ _
    (unfold curve_c in simp (none_met _ _ c.in_ok-way.ensures, told_rules))
    (unfold curve_c in simp (value_is _ _ c.in_ok-way.ensures))
