use Rattle.piece_normals.specs.Normals.{own_c}
use Rattle.checked.specs.ToldLaws.{stops, gives, none_met, value_is, met_is, rules as told_rules}
use Rattle.piece_normals.specs.Laws.{own_refusal}
use Rattle.piece_normals.proofs.own_direction.Goals as goal

pub returns-in_err-du : goal.returns-in_err-du
returns-in_err-du c = stops _ _ _ c.from_residual.ensures (simp (own_refusal, met_is _ _ c.in_err-du.ensures, told_rules))

pub returns-in_err-t : goal.returns-in_err-t
returns-in_err-t c =
    let du = c.in_ok-du.ensures in
    let t = simp (← value_is _ _ du) at c.in_err-t.ensures in
    stops _ _ _ c.from_residual-in_err-t.ensures (simp (own_refusal, none_met _ _ du, met_is _ _ t, told_rules))

pub returns-in_err-c : goal.returns-in_err-c
returns-in_err-c c =
    let du = c.in_ok-du.ensures in
    let t = simp (← value_is _ _ du) at c.in_ok-t.ensures in
    stops _ _ _ c.from_residual-in_err-c.ensures
    (simp (own_refusal, none_met _ _ du, none_met _ _ t, met_is _ _ c.in_err-c.ensures, told_rules))

pub returns-in_err-x : goal.returns-in_err-x
returns-in_err-x c =
    let du = c.in_ok-du.ensures in
    let t = simp (← value_is _ _ du) at c.in_ok-t.ensures in
    let course = c.in_ok-c.ensures in
    let x = simp (c.in_err-x.was, ← value_is _ _ t, ← value_is _ _ course) at c.motion-d.ensures.u in
    stops _ _ _ c.from_residual-in_err-x.ensures
    (simp (own_refusal, none_met _ _ du, none_met _ _ t, none_met _ _ course, met_is _ _ x, told_rules))

pub returns-in_err-y : goal.returns-in_err-y
returns-in_err-y c =
    let du = c.in_ok-du.ensures in
    let t = simp (← value_is _ _ du) at c.in_ok-t.ensures in
    let course = c.in_ok-c.ensures in
    let x = simp (c.in_ok-x.was, ← value_is _ _ t, ← value_is _ _ course) at c.motion-d.ensures.u in
    let y = simp (c.in_err-y.was, ← value_is _ _ t, ← value_is _ _ course) at c.motion-d.ensures.v in
    stops _ _ _ c.from_residual-in_err-y.ensures
    (simp (own_refusal, none_met _ _ du, none_met _ _ t, none_met _ _ course, none_met _ _ x, met_is _ _ y, told_rules))

pub returns : goal.returns
returns c =
    let du = c.in_ok-du.ensures in
    let t = simp (← value_is _ _ du) at c.in_ok-t.ensures in
    let course = c.in_ok-c.ensures in
    let x = simp (c.in_ok-x.was, ← value_is _ _ t, ← value_is _ _ course) at c.motion-d.ensures.u in
    let y = simp (c.in_ok-y.was, ← value_is _ _ t, ← value_is _ _ course) at c.motion-d.ensures.v in
    gives _ _
    (simp (own_refusal, none_met _ _ du, none_met _ _ t, none_met _ _ course, none_met _ _ x, none_met _ _ y, told_rules))
    (unfold own_c in simp (← value_is _ _ x, ← value_is _ _ y))
