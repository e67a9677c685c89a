use Rattle.checked.specs.Laws.{first_assoc}
use Rattle.checked.specs.ToldLaws.{stops, gives, none_met, value_is, met_is, rules as told_rules}
use Rattle.piece_lengths.specs.SecondDerivatives.{level_at_c, level_slope_c, level_bend_c, height_bend_c, bend_u_c, bend_v_c, meet_c}
use Rattle.piece_lengths.specs.SecondDerivativesLaws.{meet_refusal}
use Rattle.piece_lengths.proofs.second_derivatives.meet_second.Goals as goal

pub returns-in_err-k : goal.returns-in_err-k
returns-in_err-k c =
    let k = simp c.rate.ensures at c.in_err-k.ensures in
    stops _ _ _ c.from_residual.ensures (simp (meet_refusal, met_is _ _ k, told_rules))

pub returns-in_err-phi : goal.returns-in_err-phi
returns-in_err-phi c =
    let k = simp c.rate.ensures at c.in_ok-k.ensures in
    let phi = simp c.angle.ensures at c.in_err-phi.ensures in
    stops _ _ _ c.from_residual-in_err-phi.ensures (simp (meet_refusal, none_met _ _ k, met_is _ _ phi, told_rules))

pub returns-in_err-h : goal.returns-in_err-h
returns-in_err-h c =
    let k = simp c.rate.ensures at c.in_ok-k.ensures in
    let phi = simp c.angle.ensures at c.in_ok-phi.ensures in
    let h = simp (← value_is _ _ phi) at c.in_err-h.ensures in
    stops _ _ _ c.from_residual-in_err-h.ensures (simp (meet_refusal, none_met _ _ k, none_met _ _ phi, met_is _ _ h, told_rules))

pub returns-in_err-s : goal.returns-in_err-s
returns-in_err-s c =
    let k = simp c.rate.ensures at c.in_ok-k.ensures in
    let phi = simp c.angle.ensures at c.in_ok-phi.ensures in
    let h = simp (← value_is _ _ phi) at c.in_ok-h.ensures in
    let s = simp (← value_is _ _ h) at c.in_err-s.ensures in
    stops _ _ _ c.from_residual-in_err-s.ensures (simp (meet_refusal, none_met _ _ k, none_met _ _ phi, none_met _ _ h, met_is _ _ s, told_rules))

pub returns-in_err-e : goal.returns-in_err-e
returns-in_err-e c =
    let k = simp c.rate.ensures at c.in_ok-k.ensures in
    let phi = simp c.angle.ensures at c.in_ok-phi.ensures in
    let h = simp (← value_is _ _ phi) at c.in_ok-h.ensures in
    let s = simp (← value_is _ _ h) at c.in_ok-s.ensures in
    let e = simp (← value_is _ _ h, ← value_is _ _ s) at c.in_err-e.ensures in
    stops _ _ _ c.from_residual-in_err-e.ensures (simp (meet_refusal, none_met _ _ k, none_met _ _ phi, none_met _ _ h, none_met _ _ s, met_is _ _ e, told_rules))

pub returns-in_err-y-in-None : goal.returns-in_err-y-in-None
returns-in_err-y-in-None c =
    let k = simp c.rate.ensures at c.in_ok-k.ensures in
    let phi = simp c.angle.ensures at c.in_ok-phi.ensures in
    let h = simp (← value_is _ _ phi) at c.in_ok-h.ensures in
    let s = simp (← value_is _ _ h) at c.in_ok-s.ensures in
    let e = simp (← value_is _ _ h, ← value_is _ _ s) at c.in_ok-e.ensures in
    let y = simp (← value_is _ _ k, ← value_is _ _ e) at c.in_err-y-in-None.ensures in
    stops _ _ _ c.from_residual-in_err-y-in-None.ensures (simp (meet_refusal, c.in-None.is, none_met _ _ k, none_met _ _ phi, none_met _ _ h, none_met _ _ s, none_met _ _ e, told_rules) (unfold bend_v_c height_bend_c in met_is _ _ y))

pub returns-in_ok-y-in-None : goal.returns-in_ok-y-in-None
returns-in_ok-y-in-None c =
    let k = simp c.rate.ensures at c.in_ok-k.ensures in
    let phi = simp c.angle.ensures at c.in_ok-phi.ensures in
    let h = simp (← value_is _ _ phi) at c.in_ok-h.ensures in
    let s = simp (← value_is _ _ h) at c.in_ok-s.ensures in
    let e = simp (← value_is _ _ h, ← value_is _ _ s) at c.in_ok-e.ensures in
    let y = simp (← value_is _ _ k, ← value_is _ _ e) at c.in_ok-y-in-None.ensures in
    gives _ _
    (simp (meet_refusal, c.in-None.is, none_met _ _ k, none_met _ _ phi, none_met _ _ h, none_met _ _ s, none_met _ _ e, told_rules) (unfold bend_v_c height_bend_c in none_met _ _ y))
    (unfold meet_c bend_v_c height_bend_c in simp (c.in-None.is, value_is _ _ y))

pub returns-in_err-bend-in-Some : goal.returns-in_err-bend-in-Some
returns-in_err-bend-in-Some c =
    let k = simp c.rate.ensures at c.in_ok-k.ensures in
    let phi = simp c.angle.ensures at c.in_ok-phi.ensures in
    let h = simp (← value_is _ _ phi) at c.in_ok-h.ensures in
    let s = simp (← value_is _ _ h) at c.in_ok-s.ensures in
    let e = simp (← value_is _ _ h, ← value_is _ _ s) at c.in_ok-e.ensures in
    let bend = simp (c.level-q.ensures, c.level-q1.ensures, c.level-q2.ensures, ← value_is _ _ h, ← value_is _ _ s, ← value_is _ _ e) at c.in_err-bend-in-Some.ensures in
    stops _ _ _ c.from_residual-in_err-bend-in-Some.ensures
    (simp (meet_refusal, c.in-Some.is, first_assoc, none_met _ _ k, none_met _ _ phi, none_met _ _ h, none_met _ _ s, none_met _ _ e, told_rules) (unfold level_at_c level_slope_c level_bend_c bend_u_c bend_v_c height_bend_c in simp (met_is _ _ bend, told_rules)))

pub returns-in_err-x-in-Some : goal.returns-in_err-x-in-Some
returns-in_err-x-in-Some c =
    let k = simp c.rate.ensures at c.in_ok-k.ensures in
    let phi = simp c.angle.ensures at c.in_ok-phi.ensures in
    let h = simp (← value_is _ _ phi) at c.in_ok-h.ensures in
    let s = simp (← value_is _ _ h) at c.in_ok-s.ensures in
    let e = simp (← value_is _ _ h, ← value_is _ _ s) at c.in_ok-e.ensures in
    let bend = simp (c.level-q.ensures, c.level-q1.ensures, c.level-q2.ensures, ← value_is _ _ h, ← value_is _ _ s, ← value_is _ _ e) at c.in_ok-bend-in-Some.ensures in
    let x = simp (← value_is _ _ bend, ← value_is _ _ k) at c.in_err-x-in-Some.ensures in
    stops _ _ _ c.from_residual-in_err-x-in-Some.ensures
    (simp (meet_refusal, c.in-Some.is, first_assoc, none_met _ _ k, none_met _ _ phi, none_met _ _ h, none_met _ _ s, none_met _ _ e, told_rules) (unfold level_at_c level_slope_c level_bend_c bend_u_c bend_v_c height_bend_c in simp (none_met _ _ bend, met_is _ _ x, told_rules)))

pub returns-in_err-y-in-Some : goal.returns-in_err-y-in-Some
returns-in_err-y-in-Some c =
    let k = simp c.rate.ensures at c.in_ok-k.ensures in
    let phi = simp c.angle.ensures at c.in_ok-phi.ensures in
    let h = simp (← value_is _ _ phi) at c.in_ok-h.ensures in
    let s = simp (← value_is _ _ h) at c.in_ok-s.ensures in
    let e = simp (← value_is _ _ h, ← value_is _ _ s) at c.in_ok-e.ensures in
    let bend = simp (c.level-q.ensures, c.level-q1.ensures, c.level-q2.ensures, ← value_is _ _ h, ← value_is _ _ s, ← value_is _ _ e) at c.in_ok-bend-in-Some.ensures in
    let x = simp (← value_is _ _ bend, ← value_is _ _ k) at c.in_ok-x-in-Some.ensures in
    let y = simp (← value_is _ _ k, ← value_is _ _ e) at c.in_err-y-in-Some.ensures in
    stops _ _ _ c.from_residual-in_err-y-in-Some.ensures
    (simp (meet_refusal, c.in-Some.is, first_assoc, none_met _ _ k, none_met _ _ phi, none_met _ _ h, none_met _ _ s, none_met _ _ e, told_rules) (unfold level_at_c level_slope_c level_bend_c bend_u_c bend_v_c height_bend_c in simp (none_met _ _ bend, none_met _ _ x, met_is _ _ y, told_rules)))

pub returns-in_ok-y-in-Some : goal.returns-in_ok-y-in-Some
returns-in_ok-y-in-Some c =
    let k = simp c.rate.ensures at c.in_ok-k.ensures in
    let phi = simp c.angle.ensures at c.in_ok-phi.ensures in
    let h = simp (← value_is _ _ phi) at c.in_ok-h.ensures in
    let s = simp (← value_is _ _ h) at c.in_ok-s.ensures in
    let e = simp (← value_is _ _ h, ← value_is _ _ s) at c.in_ok-e.ensures in
    let bend = simp (c.level-q.ensures, c.level-q1.ensures, c.level-q2.ensures, ← value_is _ _ h, ← value_is _ _ s, ← value_is _ _ e) at c.in_ok-bend-in-Some.ensures in
    let x = simp (← value_is _ _ bend, ← value_is _ _ k) at c.in_ok-x-in-Some.ensures in
    let y = simp (← value_is _ _ k, ← value_is _ _ e) at c.in_ok-y-in-Some.ensures in
    gives _ _
    (simp (meet_refusal, c.in-Some.is, first_assoc, none_met _ _ k, none_met _ _ phi, none_met _ _ h, none_met _ _ s, none_met _ _ e, told_rules) (unfold level_at_c level_slope_c level_bend_c bend_u_c bend_v_c height_bend_c in simp (none_met _ _ bend, none_met _ _ x, none_met _ _ y, told_rules)))
    (unfold meet_c level_at_c level_slope_c level_bend_c bend_u_c bend_v_c height_bend_c in simp (c.in-Some.is, value_is _ _ x, value_is _ _ y))
