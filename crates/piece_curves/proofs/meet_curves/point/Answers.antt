use Rattle.piece_curves.specs.MeetCurves.{ended_c}
use Rattle.checked.specs.ToldLaws.{stops, follows, none_met, value_is, met_is, rules as told_rules}
use Rattle.piece_curves.specs.MeetCurvesLaws.{point_refusal, point_value}
use Rattle.piece_curves.proofs.meet_curves.point.Goals as goal

pub returns-in_err-m : goal.returns-in_err-m
returns-in_err-m c =
    let q = simp c.in_err-m.was at c.motion-m.ensures.q in
    stops _ _ _ c.from_residual.ensures (simp (point_refusal, met_is (ended_c c.args.c c.args.t) _ q, told_rules))

pub returns : goal.returns
returns c =
    let q = simp c.in_ok-m.was at c.motion-m.ensures.q in
    let p = simp (← value_is (ended_c c.args.c c.args.t) _ q) at c.placed.ensures in
    follows _ _ _ _ p (simp (point_refusal, none_met (ended_c c.args.c c.args.t) _ q, told_rules)) (point_value _ _)
