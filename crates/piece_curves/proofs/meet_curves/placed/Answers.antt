use Rattle.piece_curves.specs.MeetCurves.{placed_c}
use Rattle.checked.specs.ToldLaws.{stops, gives, none_met, value_is, met_is, rules as told_rules}
use Rattle.piece_curves.specs.MeetCurvesLaws.{near_nine}
use Rattle.piece_curves.proofs.meet_curves.placed.Goals as goal

pub returns-in_err-z-in-None : goal.returns-in_err-z-in-None
unfolding placed_c
returns-in_err-z-in-None c = simp c.in-None.is (stops _ _ _ c.from_residual.ensures (simp (met_is _ _ c.in_err-z-in-None.ensures, told_rules)))

pub returns-in_err-finite3-in-Some : goal.returns-in_err-finite3-in-Some
unfolding placed_c
returns-in_err-finite3-in-Some c = simp c.in-Some.is (stops _ _ _ c.from_residual-in_err-finite3-in-Some.ensures (simp (met_is _ _ c.in_err-finite3-in-Some.ensures, told_rules)))

pub returns-in_err-u-in-Some : goal.returns-in_err-u-in-Some
unfolding placed_c
returns-in_err-u-in-Some c =
    let u = simp c.near.ensures at c.in_err-u-in-Some.ensures in
    simp c.in-Some.is (stops _ _ _ c.from_residual-in_err-u-in-Some.ensures (simp (near_nine, none_met _ _ c.in_ok-finite3-in-Some.ensures, met_is _ _ u, told_rules)))

pub returns-in_ok-z-in-None : goal.returns-in_ok-z-in-None
unfolding placed_c
returns-in_ok-z-in-None c = simp c.in-None.is (gives _ _ (simp (none_met _ _ c.in_ok-z-in-None.ensures, told_rules)) (simp (value_is _ _ c.in_ok-z-in-None.ensures)))

pub returns-in_ok-u-in-Some : goal.returns-in_ok-u-in-Some
unfolding placed_c
returns-in_ok-u-in-Some c =
    let u = simp c.near.ensures at c.in_ok-u-in-Some.ensures in
    simp c.in-Some.is (gives _ _ (simp (near_nine, none_met _ _ c.in_ok-finite3-in-Some.ensures, none_met _ _ u, told_rules)) (simp (value_is _ _ u)))
