use mathlib.Core.Path.{refl}
use Rattle.developments.specs.Formulas.{point_c}
use Rattle.developments.specs.Laws.{point_refusal}
use Rattle.checked.specs.ToldLaws.{stops, follows, none_met, value_is, met_is, rules as told_rules}
use Rattle.developments.proofs.formulas.point.Goals as goal

pub returns-in_err-c : goal.returns-in_err-c
returns-in_err-c c =
    let centre = simp (c.plus.ensures, c.times.ensures) at c.in_err-c.ensures in
    stops _ _ _ c.from_residual.ensures (simp (point_refusal, met_is _ _ centre, told_rules))

pub returns-in_err-x : goal.returns-in_err-x
returns-in_err-x c =
    let centre = simp (c.plus.ensures, c.times.ensures) at c.in_ok-c.ensures in
    stops _ _ _ c.from_residual-in_err-x.ensures (simp (point_refusal, none_met _ _ centre, met_is _ _ c.in_err-x.ensures, told_rules))

pub returns : goal.returns
returns c =
    let centre = simp (c.plus.ensures, c.times.ensures) at c.in_ok-c.ensures in
    let x = c.in_ok-x.ensures in
    let q = simp (c.times-2.ensures, ← value_is _ _ centre, ← value_is _ _ x) at c.plus-2.ensures in
    follows _ _ _ _ c.finite3-2.ensures (simp (point_refusal, none_met _ _ centre, none_met _ _ x, q, told_rules) (unfold point_c in refl)) (unfold point_c in simp q)
