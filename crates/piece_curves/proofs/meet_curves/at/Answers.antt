use Rattle.piece_curves.specs.MeetCurves.{ended_c, at_c}
use Rattle.checked.specs.ToldLaws.{stops, gives, none_met, value_is, met_is, rules as told_rules}
use Rattle.piece_curves.specs.MeetCurvesLaws.{point_refusal, point_value}
use Rattle.piece_curves.proofs.meet_curves.at.Goals as goal

pub returns-in_err-du : goal.returns-in_err-du
unfolding at_c
returns-in_err-du c =
    let du = simp c.in_err-du.was at c.motion-m.ensures.u in
    stops _ _ _ c.from_residual.ensures (simp (met_is _ _ du, told_rules))

pub returns-in_err-dv : goal.returns-in_err-dv
unfolding at_c
returns-in_err-dv c =
    let du = simp c.in_ok-du.was at c.motion-m.ensures.u in
    let dv = simp c.in_err-dv.was at c.motion-m.ensures.v in
    stops _ _ _ c.from_residual-in_err-dv.ensures (simp (none_met _ _ du, met_is _ _ dv, told_rules))

pub returns-in_err-m : goal.returns-in_err-m
unfolding at_c
returns-in_err-m c =
    let du = simp c.in_ok-du.was at c.motion-m.ensures.u in
    let dv = simp c.in_ok-dv.was at c.motion-m.ensures.v in
    let q = simp c.in_err-m.was at c.motion-m.ensures.q in
    stops _ _ _ c.from_residual-in_err-m.ensures
    (simp (none_met _ _ du, none_met _ _ dv, point_refusal, met_is (ended_c c.args.c c.args.t) _ q, told_rules))

pub returns-in_err-p : goal.returns-in_err-p
unfolding at_c
returns-in_err-p c =
    let du = simp c.in_ok-du.was at c.motion-m.ensures.u in
    let dv = simp c.in_ok-dv.was at c.motion-m.ensures.v in
    let q = simp c.in_ok-m.was at c.motion-m.ensures.q in
    let p = simp (← value_is (ended_c c.args.c c.args.t) _ q) at c.in_err-p.ensures in
    stops _ _ _ c.from_residual-in_err-p.ensures
    (simp (none_met _ _ du, none_met _ _ dv, point_refusal, none_met (ended_c c.args.c c.args.t) _ q, met_is _ _ p, told_rules))

pub returns : goal.returns
unfolding at_c
returns c =
    let du = simp c.in_ok-du.was at c.motion-m.ensures.u in
    let dv = simp c.in_ok-dv.was at c.motion-m.ensures.v in
    let q = simp c.in_ok-m.was at c.motion-m.ensures.q in
    let p = simp (← value_is (ended_c c.args.c c.args.t) _ q) at c.in_ok-p.ensures in
    gives _ _
    (simp (none_met _ _ du, none_met _ _ dv, point_refusal, none_met (ended_c c.args.c c.args.t) _ q, none_met _ _ p, told_rules))
    (simp (value_is _ _ du, value_is _ _ dv, point_value, value_is _ _ p))
