use Rattle.checked.specs.ToldLaws.{stops, gives, none_met, value_is, met_is, rules as told_rules}
use Rattle.piece_lengths.specs.MeasuresLaws.{meet_refusal, meet_value}
use Rattle.piece_lengths.proofs.measures.meet_place.Goals as goal

pub returns-in_err-t : goal.returns-in_err-t
returns-in_err-t c = stops _ _ _ c.from_residual.ensures (simp (meet_refusal, met_is _ _ c.in_err-t.ensures, told_rules))

pub returns-in_err-u : goal.returns-in_err-u
returns-in_err-u c =
    let t = c.in_ok-t.ensures in
    let u = simp (c.in_err-u.was, ← value_is _ _ t) at c.motion-m.ensures.u in
    stops _ _ _ c.from_residual-in_err-u.ensures (simp (meet_refusal, none_met _ _ t, met_is _ _ u, told_rules))

pub returns-in_err-v : goal.returns-in_err-v
returns-in_err-v c =
    let t = c.in_ok-t.ensures in
    let u = simp (c.in_ok-u.was, ← value_is _ _ t) at c.motion-m.ensures.u in
    let v = simp (c.in_err-v.was, ← value_is _ _ t) at c.motion-m.ensures.v in
    stops _ _ _ c.from_residual-in_err-v.ensures (simp (meet_refusal, none_met _ _ t, none_met _ _ u, met_is _ _ v, told_rules))

pub returns-in_err-q : goal.returns-in_err-q
returns-in_err-q c =
    let t = c.in_ok-t.ensures in
    let u = simp (c.in_ok-u.was, ← value_is _ _ t) at c.motion-m.ensures.u in
    let v = simp (c.in_ok-v.was, ← value_is _ _ t) at c.motion-m.ensures.v in
    let q = simp (c.in_err-q.was, ← value_is _ _ t) at c.motion-m.ensures.q in
    stops _ _ _ c.from_residual-in_err-q.ensures (simp (meet_refusal, none_met _ _ t, none_met _ _ u, none_met _ _ v, met_is _ _ q, told_rules))

pub returns-in_err-p : goal.returns-in_err-p
returns-in_err-p c =
    let t = c.in_ok-t.ensures in
    let u = simp (c.in_ok-u.was, ← value_is _ _ t) at c.motion-m.ensures.u in
    let v = simp (c.in_ok-v.was, ← value_is _ _ t) at c.motion-m.ensures.v in
    let q = simp (c.in_ok-q.was, ← value_is _ _ t) at c.motion-m.ensures.q in
    let p = simp (← value_is _ _ t, ← value_is _ _ q) at c.in_err-p.ensures in
    stops _ _ _ c.from_residual-in_err-p.ensures (simp (meet_refusal, none_met _ _ t, none_met _ _ u, none_met _ _ v, none_met _ _ q, met_is _ _ p, told_rules))

pub returns : goal.returns
returns c =
    let t = c.in_ok-t.ensures in
    let u = simp (c.in_ok-u.was, ← value_is _ _ t) at c.motion-m.ensures.u in
    let v = simp (c.in_ok-v.was, ← value_is _ _ t) at c.motion-m.ensures.v in
    let q = simp (c.in_ok-q.was, ← value_is _ _ t) at c.motion-m.ensures.q in
    let p = simp (← value_is _ _ t, ← value_is _ _ q) at c.in_ok-p.ensures in
    gives _ _
    (simp (meet_refusal, none_met _ _ t, none_met _ _ u, none_met _ _ v, none_met _ _ q, none_met _ _ p, told_rules))
    (simp (meet_value, value_is _ _ u, value_is _ _ v, value_is _ _ p))
