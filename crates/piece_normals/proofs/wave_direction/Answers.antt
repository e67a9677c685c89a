use Rattle.piece_normals.specs.Normals.{wave_c}
use Rattle.checked.specs.ToldLaws.{stops, gives, none_met, value_is, met_is, rules as told_rules}
use Rattle.piece_normals.proofs.wave_direction.Goals as goal

pub returns-in_err-du : goal.returns-in_err-du
returns-in_err-du c =
    let du = c.in_err-du.ensures in
    stops _ _ _ c.from_residual.ensures (unfold wave_c in simp (met_is _ _ du, told_rules))

pub returns-in_err-s : goal.returns-in_err-s
returns-in_err-s c =
    let du = c.in_ok-du.ensures in
    let s = c.in_err-s.ensures in
    stops _ _ _ c.from_residual-in_err-s.ensures (unfold wave_c in simp (none_met _ _ du, met_is _ _ s, told_rules))

pub returns-in_err-y : goal.returns-in_err-y
returns-in_err-y c =
    let du = c.in_ok-du.ensures in
    let s = c.in_ok-s.ensures in
    let y = simp (← value_is _ _ s, ← value_is _ _ du) at c.in_err-y.ensures in
    stops _ _ _ c.from_residual-in_err-y.ensures (unfold wave_c in simp (none_met _ _ du, none_met _ _ s, met_is _ _ y, told_rules))

pub returns : goal.returns
returns c =
    let du = c.in_ok-du.ensures in
    let s = c.in_ok-s.ensures in
    let y = simp (← value_is _ _ s, ← value_is _ _ du) at c.in_ok-y.ensures in
    gives _ _
    (unfold wave_c in simp (none_met _ _ du, none_met _ _ s, none_met _ _ y, told_rules))
    (unfold wave_c in simp (← value_is _ _ y, ← value_is _ _ du))
