use mathlib.Core.Path.{refl}
use Rattle.checked.specs.ToldLaws.{stops, follows, none_met, value_is, met_is, rules as told_rules}
use Rattle.piece_lengths.specs.Counts.{off_c}
use Rattle.piece_lengths.specs.CountsLaws.{off_refusal}
use Rattle.piece_lengths.proofs.counts.off.Goals as goal

pub returns-in_err-square : goal.returns-in_err-square
returns-in_err-square c = stops _ _ _ c.from_residual.ensures (simp (off_refusal, met_is _ _ c.in_err-square.ensures, told_rules))

pub returns-in_err-y : goal.returns-in_err-y
returns-in_err-y c =
    let s = c.in_ok-square.ensures in
    let y = simp (← value_is _ _ s) at c.in_err-y.ensures in
    stops _ _ _ c.from_residual-in_err-y.ensures (simp (off_refusal, none_met _ _ s, met_is _ _ y, told_rules))

pub returns-in_err-e : goal.returns-in_err-e
returns-in_err-e c =
    let s = c.in_ok-square.ensures in
    let y = simp (← value_is _ _ s) at c.in_ok-y.ensures in
    stops _ _ _ c.from_residual-in_err-e.ensures (simp (off_refusal, none_met _ _ s, none_met _ _ y, met_is _ _ c.in_err-e.ensures, told_rules))

pub returns : goal.returns
returns c =
    let s = c.in_ok-square.ensures in
    let y = simp (← value_is _ _ s) at c.in_ok-y.ensures in
    let e = c.in_ok-e.ensures in
    let q = simp (← value_is _ _ y, ← value_is _ _ e) at c.sqrt.ensures in
    follows _ _ _ _ c.finite-4.ensures
    (simp (off_refusal, none_met _ _ s, none_met _ _ y, none_met _ _ e, q, told_rules) (unfold off_c in refl))
    (unfold off_c in simp q)
