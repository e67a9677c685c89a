use mathlib.Core.Path.{refl}
use Rattle.checked.specs.ToldLaws.{exit_is, stops, follows, none_met, value_is, met_is, rules as told_rules}
use Rattle.piece_lengths.specs.Measures.{further_c}
use Rattle.piece_lengths.specs.MeasuresLaws.{further_refusal}
use Rattle.piece_lengths.proofs.measures.further.Goals as goal

pub returns-in_err-t : goal.returns-in_err-t
returns-in_err-t c = simp c.in_err-t.was (exit_is _ _ c.from_residual.ensures)

pub returns-in_err-y : goal.returns-in_err-y
returns-in_err-y c = simp c.in_ok-t.was (stops _ _ _ c.from_residual-in_err-y.ensures (simp (further_refusal, met_is _ _ c.in_err-y.ensures, told_rules)))

pub returns-in_err-x : goal.returns-in_err-x
returns-in_err-x c =
    simp c.in_ok-t.was
    (stops _ _ _ c.from_residual-in_err-x.ensures (simp (further_refusal, none_met _ _ c.in_ok-y.ensures, met_is _ _ c.in_err-x.ensures, told_rules)))

pub returns-in_err-a : goal.returns-in_err-a
returns-in_err-a c =
    let y = c.in_ok-y.ensures in
    let x = c.in_ok-x.ensures in
    let a = simp (c.atan2.ensures, ← value_is _ _ y, ← value_is _ _ x) at c.in_err-a.ensures in
    simp c.in_ok-t.was
    (stops _ _ _ c.from_residual-in_err-a.ensures (simp (further_refusal, none_met _ _ y, none_met _ _ x, met_is _ _ a, told_rules)))

pub returns : goal.returns
returns c =
    let y = c.in_ok-y.ensures in
    let x = c.in_ok-x.ensures in
    let a = simp (c.atan2.ensures, ← value_is _ _ y, ← value_is _ _ x) at c.in_ok-a.ensures in
    let f = simp (← value_is _ _ a) at c.fabs.ensures in
    simp c.in_ok-t.was
    (follows _ _ _ _ c.finite-4.ensures (simp (further_refusal, none_met _ _ y, none_met _ _ x, none_met _ _ a, f, told_rules) (unfold further_c in refl)) (unfold further_c in simp f))
