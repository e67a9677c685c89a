use mathlib.Core.Path.{refl}
use Rattle.checked.specs.ToldLaws.{none_met, value_is, met_is, gives, stops, rules as told_rules}
use Rattle.face_paths.specs.PieceRates.{meet_c}
use Rattle.piece_curves.specs.MeetCurvesLaws.{point_refusal, point_value}
use Rattle.face_paths.proofs.piece_rates.meet_rate.Goals as goal

pub returns-in_err-du : goal.returns-in_err-du
returns-in_err-du c =
    let du = simp c.in_err-du.was at c.motion-m.ensures.u in
    stops _ _ _ c.from_residual.ensures (unfold meet_c in rw (met_is _ _ du) (simp told_rules))

pub returns-in_err-q : goal.returns-in_err-q
returns-in_err-q c =
    let du = simp c.in_ok-du.was at c.motion-m.ensures.u in
    let q = simp c.in_err-q.was at c.motion-m.ensures.q in
    stops _ _ _ c.from_residual-in_err-q.ensures (unfold meet_c in rw (none_met _ _ du, point_refusal _ _, met_is _ _ q) (simp told_rules))

pub returns-in_err-p : goal.returns-in_err-p
returns-in_err-p c =
    let du = simp c.in_ok-du.was at c.motion-m.ensures.u in
    let q = simp c.in_ok-q.was at c.motion-m.ensures.q in
    stops _ _ _ c.from_residual-in_err-p.ensures (unfold meet_c in rw (none_met _ _ du, point_refusal _ _, none_met _ _ q, value_is _ _ q, met_is _ _ c.in_err-p.ensures) (simp told_rules))

pub returns : goal.returns
returns c =
    let du = simp c.in_ok-du.was at c.motion-m.ensures.u in
    let q = simp c.in_ok-q.was at c.motion-m.ensures.q in
    let p = c.in_ok-p.ensures in
    gives _ _
    (unfold meet_c in rw (none_met _ _ du, point_refusal _ _, none_met _ _ q, value_is _ _ q, none_met _ _ p) (simp told_rules))
    (unfold meet_c in rw (value_is _ _ du, point_value _ _, value_is _ _ q, value_is _ _ p) refl)
