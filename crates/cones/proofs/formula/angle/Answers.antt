use mathlib.Core.Path.{refl}
use Rattle.cones.specs.Frames.{angle_c}
use Rattle.checked.specs.ToldLaws.{stops, follows, none_met, value_is, met_is, rules as told_rules}
use Rattle.cones.specs.Laws.{angle_refusal}
use Rattle.cones.proofs.formula.angle.Goals as goal

pub returns-in_err-y : goal.returns-in_err-y
returns-in_err-y c =
    let y = simp (c.dot.ensures, c.minus-w.ensures) at c.in_err-y.ensures in
    stops _ _ _ c.from_residual.ensures (simp (angle_refusal, met_is _ _ y, told_rules))

pub returns-in_err-x : goal.returns-in_err-x
returns-in_err-x c =
    let y = simp (c.dot.ensures, c.minus-w.ensures) at c.in_ok-y.ensures in
    let x = simp (c.dot-2.ensures, c.minus-w.ensures) at c.in_err-x.ensures in
    stops _ _ _ c.from_residual-in_err-x.ensures (simp (angle_refusal, none_met _ _ y, met_is _ _ x, told_rules))

pub returns : goal.returns
returns c =
    let y = simp (c.dot.ensures, c.minus-w.ensures) at c.in_ok-y.ensures in
    let x = simp (c.dot-2.ensures, c.minus-w.ensures) at c.in_ok-x.ensures in
    let a = simp (← value_is _ _ y, ← value_is _ _ x) at c.atan2.ensures in
    follows _ _ _ _ c.finite-3.ensures (simp (angle_refusal, none_met _ _ y, none_met _ _ x, a, told_rules) (unfold angle_c in refl)) (unfold angle_c in simp a)
