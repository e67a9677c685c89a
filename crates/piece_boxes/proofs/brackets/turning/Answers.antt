use mathlib.Core.Path.{refl}
use Rattle.checked.specs.ToldLaws.{stops, follows, none_met, value_is, met_is, rules as told_rules}
use Rattle.piece_boxes.specs.Brackets.{turning_c}
use Rattle.piece_boxes.specs.BracketsLaws.{turning_refusal}
use Rattle.piece_boxes.proofs.brackets.turning.Goals as goal

pub returns-in_err-h : goal.returns-in_err-h
returns-in_err-h c = stops _ _ _ c.from_residual.ensures (simp (turning_refusal, met_is _ _ c.in_err-h.ensures, told_rules))

pub returns-in_err-m : goal.returns-in_err-m
returns-in_err-m c =
    let h = c.in_ok-h.ensures in
    let m = simp (← value_is _ _ h) at c.in_err-m.ensures in
    stops _ _ _ c.from_residual-in_err-m.ensures (simp (turning_refusal, none_met _ _ h, met_is _ _ m, told_rules))

pub returns : goal.returns
returns c =
    let h = c.in_ok-h.ensures in
    let m = simp (← value_is _ _ h) at c.in_ok-m.ensures in
    let p = simp (← value_is _ _ m) at c.point.ensures in
    follows _ _ _ _ p (simp (turning_refusal, none_met _ _ h, none_met _ _ m, told_rules)) (unfold turning_c in refl)
