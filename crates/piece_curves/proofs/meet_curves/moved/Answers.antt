use Rattle.std.specs.Prelude.{Err}
use mathlib.Core.Path.{refl, sym}
use Rattle.checked.specs.Laws.{first_assoc, first_zero}
use Rattle.checked.specs.Told.{number}
use Rattle.checked.specs.ToldLaws.{gives, follows, none_met, value_is, met_is, settled_number, rules as told_rules, and_told}
use Rattle.vectors.specs.Vectors.{plus_c, times_c}
use Rattle.meets.specs.Generatrix.{point_c, along_generatrix_c}
use Rattle.piece_curves.specs.MeetCurves.{spot_c, slope_v_c, around_c, ended_c}
use Rattle.piece_curves.specs.MeetCurvesLaws.{intersection_at_refusal, slope_v_met, around_met}
use Rattle.piece_curves.proofs.meet_curves.moved.Goals as goal

-- the cylinder is not reached
pub returns-in-Err-clause-u : goal.returns-in-Err-clause-u
returns-in-Err-clause-u c =
    let h = simp (← c.and.ensures, c.in-Err.is, c.angle-phi.ensures) at (and_told _ _ _ _ c.finite.ensures c.intersect.ensures) in
    let r = simp (← c.and-r.ensures, c.rate-k.ensures) at (and_told _ (Err c.in-Err.e) _ (record { refusal = number c.in-Err.e; value = (around_c c.args.c c.args.t).value }) c.finite-in-Err.ensures (sym (settled_number _ _))) in
    follows _ _ _ _ r (simp (around_met, intersection_at_refusal, met_is _ _ h, told_rules)) refl

pub returns-in-Err-clause-v : goal.returns-in-Err-clause-v
returns-in-Err-clause-v c =
    let h = simp (← c.and.ensures, c.in-Err.is, c.angle-phi.ensures) at (and_told _ _ _ _ c.finite.ensures c.intersect.ensures) in
    let r = simp (← c.and-r.ensures, c.rate-k.ensures) at (and_told _ (Err c.in-Err.e) _ (record { refusal = number c.in-Err.e; value = (slope_v_c c.args.c c.args.t).value }) c.finite-in-Err.ensures (sym (settled_number _ _))) in
    follows _ _ _ _ r (simp (slope_v_met, intersection_at_refusal, met_is _ _ h, told_rules)) refl

pub returns-in-Err-clause-q : goal.returns-in-Err-clause-q
returns-in-Err-clause-q c =
    let h = simp (← c.and.ensures, c.in-Err.is, c.angle-phi.ensures) at (and_told _ _ _ _ c.finite.ensures c.intersect.ensures) in
    simp (intersection_at_refusal, met_is _ _ h, told_rules)

-- it is, and the derivatives are refused
pub returns-in-Err-and-clause-u : goal.returns-in-Err-and-clause-u
returns-in-Err-and-clause-u c =
    let h = simp (← c.and.ensures, c.in-Ok.is, c.angle-phi.ensures) at (and_told _ _ _ _ c.finite.ensures c.intersect.ensures) in
    let s = simp (← c.and-in-Ok.ensures, c.in-Err-and.is, c.rate-k.ensures, ← value_is _ _ h) at (and_told _ _ _ _ c.finite-in-Ok.ensures c.speed_at.ensures) in
    simp (around_met, intersection_at_refusal, none_met _ _ h, ← first_assoc, met_is _ _ s, told_rules)

pub returns-in-Err-and-clause-v : goal.returns-in-Err-and-clause-v
returns-in-Err-and-clause-v c =
    let h = simp (← c.and.ensures, c.in-Ok.is, c.angle-phi.ensures) at (and_told _ _ _ _ c.finite.ensures c.intersect.ensures) in
    let s = simp (← c.and-in-Ok.ensures, c.in-Err-and.is, c.rate-k.ensures, ← value_is _ _ h) at (and_told _ _ _ _ c.finite-in-Ok.ensures c.speed_at.ensures) in
    simp (slope_v_met, intersection_at_refusal, none_met _ _ h, ← first_assoc, first_zero, met_is _ _ s, told_rules)

pub returns-in-Err-and-clause-q : goal.returns-in-Err-and-clause-q
returns-in-Err-and-clause-q c =
    let h = simp (← c.and.ensures, c.in-Ok.is, c.angle-phi.ensures) at (and_told _ _ _ _ c.finite.ensures c.intersect.ensures) in
    gives (ended_c c.args.c c.args.t) _ (simp (intersection_at_refusal, none_met _ _ h)) (unfold spot_c point_c along_generatrix_c in simp (c.plus-q.ensures, c.times.ensures, ← value_is _ _ h))

-- all is
pub returns-in-Ok-and-clause-u : goal.returns-in-Ok-and-clause-u
returns-in-Ok-and-clause-u c =
    let h = simp (← c.and.ensures, c.in-Ok.is, c.angle-phi.ensures) at (and_told _ _ _ _ c.finite.ensures c.intersect.ensures) in
    let s = simp (← c.and-in-Ok.ensures, c.in-Ok-and.is, c.rate-k.ensures, ← value_is _ _ h) at (and_told _ _ _ _ c.finite-in-Ok.ensures c.speed_at.ensures) in
    let q = simp (c.times.ensures, ← value_is _ _ h) at c.plus-q.ensures in
    let u = simp (← c.and-in-Ok-and.ensures, q, ← value_is _ _ s, c.rate-k.ensures) at (and_told _ _ _ _ c.finite-in-Ok-and.ensures c.finite-in-Ok-and-2.ensures) in
    follows _ _ _ _ u
    (simp (around_met, intersection_at_refusal, none_met _ _ h, ← first_assoc, none_met _ _ s, told_rules) (unfold around_c plus_c times_c in refl))
    (unfold around_c plus_c times_c in refl)

pub returns-in-Ok-and-clause-v : goal.returns-in-Ok-and-clause-v
returns-in-Ok-and-clause-v c =
    let h = simp (← c.and.ensures, c.in-Ok.is, c.angle-phi.ensures) at (and_told _ _ _ _ c.finite.ensures c.intersect.ensures) in
    let s = simp (← c.and-in-Ok.ensures, c.in-Ok-and.is, c.rate-k.ensures, ← value_is _ _ h) at (and_told _ _ _ _ c.finite-in-Ok.ensures c.speed_at.ensures) in
    let v = simp (← value_is _ _ s, c.rate-k.ensures) at c.finite-in-Ok-and-3.ensures in
    follows _ _ _ _ v
    (simp (slope_v_met, intersection_at_refusal, none_met _ _ h, ← first_assoc, first_zero, none_met _ _ s, told_rules) (unfold slope_v_c in refl))
    (unfold slope_v_c in refl)

pub returns-in-Ok-and-clause-q : goal.returns-in-Ok-and-clause-q
returns-in-Ok-and-clause-q c =
    let h = simp (← c.and.ensures, c.in-Ok.is, c.angle-phi.ensures) at (and_told _ _ _ _ c.finite.ensures c.intersect.ensures) in
    gives (ended_c c.args.c c.args.t) _ (simp (intersection_at_refusal, none_met _ _ h)) (unfold spot_c point_c along_generatrix_c in simp (c.plus-q.ensures, c.times.ensures, ← value_is _ _ h))
