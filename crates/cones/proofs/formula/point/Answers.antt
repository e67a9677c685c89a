use mathlib.Core.Path.{refl}
use Rattle.cones.specs.Frames.{point_c}
use Rattle.checked.specs.ToldLaws.{stops, follows, none_met, value_is, met_is, rules as told_rules}
use Rattle.cones.specs.Laws.{point_refusal}
use Rattle.cones.proofs.formula.point.Goals as goal

pub returns-in_err-s : goal.returns-in_err-s
returns-in_err-s c = stops _ _ _ c.from_residual.ensures (simp (point_refusal, met_is _ _ c.in_err-s.ensures, told_rules))

pub returns : goal.returns
returns c =
    let s = c.in_ok-s.ensures in
    let p = simp (c.times-4.ensures, c.plus-2.ensures, c.times-3.ensures, c.times-2.ensures, c.plus.ensures, c.times.ensures, ← value_is _ _ s) at c.plus-3.ensures in
    follows _ _ _ _ c.finite3.ensures (simp (point_refusal, none_met _ _ s, p, told_rules) (unfold point_c in refl)) (unfold point_c in simp p)
