use Rattle.piece_curves.specs.Points.{wave_c}
use Rattle.checked.specs.ToldLaws.{stops, gives, none_met, value_is, met_is, rules as told_rules}
use Rattle.piece_curves.specs.PointsLaws.{wave_refusal}
use Rattle.piece_curves.proofs.points.wave_at.Goals as goal

pub returns-in_err-du : goal.returns-in_err-du
returns-in_err-du c =
    let du = c.in_err-du.ensures in
    stops _ _ _ c.from_residual.ensures (simp wave_refusal (unfold wave_c in simp (met_is _ _ du, told_rules)))

pub returns-in_err-u : goal.returns-in_err-u
returns-in_err-u c =
    let du = c.in_ok-du.ensures in
    let u = simp (← value_is _ _ du) at c.in_err-u.ensures in
    stops _ _ _ c.from_residual-in_err-u.ensures (simp wave_refusal (unfold wave_c in simp (none_met _ _ du, met_is _ _ u, told_rules)))

pub returns-in_err-h : goal.returns-in_err-h
returns-in_err-h c =
    let du = c.in_ok-du.ensures in
    let u = simp (← value_is _ _ du) at c.in_ok-u.ensures in
    let h = simp (← value_is _ _ u) at c.in_err-h.ensures in
    stops _ _ _ c.from_residual-in_err-h.ensures (simp wave_refusal (unfold wave_c in simp (none_met _ _ du, none_met _ _ u, met_is _ _ h, told_rules)))

pub returns-in_err-dv : goal.returns-in_err-dv
returns-in_err-dv c =
    let du = c.in_ok-du.ensures in
    let u = simp (← value_is _ _ du) at c.in_ok-u.ensures in
    let h = simp (← value_is _ _ u) at c.in_ok-h.ensures in
    let dv = simp (← value_is _ _ h, ← value_is _ _ du) at c.in_err-dv.ensures in
    stops _ _ _ c.from_residual-in_err-dv.ensures (simp wave_refusal (unfold wave_c in simp (none_met _ _ du, none_met _ _ u, none_met _ _ h, met_is _ _ dv, told_rules)))

pub returns : goal.returns
returns c =
    let du = c.in_ok-du.ensures in
    let u = simp (← value_is _ _ du) at c.in_ok-u.ensures in
    let h = simp (← value_is _ _ u) at c.in_ok-h.ensures in
    let dv = simp (← value_is _ _ h, ← value_is _ _ du) at c.in_ok-dv.ensures in
    gives _ _
    (simp wave_refusal (unfold wave_c in simp (none_met _ _ du, none_met _ _ u, none_met _ _ h, none_met _ _ dv, told_rules)))
    (unfold wave_c in simp (← value_is _ _ dv, ← value_is _ _ h, ← value_is _ _ u, ← value_is _ _ du))
