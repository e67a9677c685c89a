use Rattle.motions.specs.Motions.{rotation_c}
use Rattle.checked.specs.ToldLaws.{stops, gives, none_met, value_is, met_is, rules as told_rules}
use Rattle.motions.specs.Laws.{rotation_refusal}
use Rattle.motions.proofs.formula.rotation.Goals as goal

pub returns-in_err-k : goal.returns-in_err-k
returns-in_err-k c = stops _ _ _ c.from_residual.ensures (simp (rotation_refusal, met_is _ _ c.in_err-k.ensures, told_rules))

pub returns-in_err-a : goal.returns-in_err-a
returns-in_err-a c = stops _ _ _ c.from_residual-in_err-a.ensures (simp (rotation_refusal, none_met _ _ c.in_ok-k.ensures, met_is _ _ c.in_err-a.ensures, told_rules))

pub returns-in_err-t : goal.returns-in_err-t
returns-in_err-t c =
    let a = c.in_ok-a.ensures in
    let t = simp (← value_is _ _ a) at c.in_err-t.ensures in
    stops _ _ _ c.from_residual-in_err-t.ensures (simp (rotation_refusal, none_met _ _ c.in_ok-k.ensures, none_met _ _ a, met_is _ _ t, told_rules))

pub returns-in_err-rot : goal.returns-in_err-rot
returns-in_err-rot c =
    let k = c.in_ok-k.ensures in
    let a = c.in_ok-a.ensures in
    let t = simp (← value_is _ _ a) at c.in_ok-t.ensures in
    let m = simp (c.rows.ensures, ← value_is _ _ t, ← value_is _ _ a, ← value_is _ _ k) at c.in_err-rot.ensures in
    stops _ _ _ c.from_residual-in_err-rot.ensures
    (simp (rotation_refusal, none_met _ _ k, none_met _ _ a, none_met _ _ t, told_rules) (unfold rotation_c in simp (met_is _ _ m)))

pub returns : goal.returns
returns c =
    let k = c.in_ok-k.ensures in
    let a = c.in_ok-a.ensures in
    let t = simp (← value_is _ _ a) at c.in_ok-t.ensures in
    let m = simp (c.rows.ensures, ← value_is _ _ t, ← value_is _ _ a, ← value_is _ _ k) at c.in_ok-rot.ensures in
    gives _ _
    (simp (rotation_refusal, none_met _ _ k, none_met _ _ a, none_met _ _ t, told_rules) (unfold rotation_c in simp (none_met _ _ m)))
    (unfold rotation_c in simp (value_is _ _ m))
