use mathlib.Core.Path.{refl}
use Rattle.directions.specs.Directions.{over_length_c}
use Rattle.checked.specs.ToldLaws.{stops, follows, none_met, value_is, met_is, rules as told_rules}
use Rattle.directions.specs.Laws.{over_length_refusal}
use Rattle.directions.proofs.formula.over_length.Goals as goal

pub returns-in_err-l : goal.returns-in_err-l
returns-in_err-l c =
    let l = simp c.length.ensures at c.in_err-l.ensures in
    stops _ _ _ c.from_residual.ensures (simp (over_length_refusal, met_is _ _ l, told_rules))

pub returns : goal.returns
returns c =
    let l = simp c.length.ensures at c.in_ok-l.ensures in
    let u = simp (← value_is _ _ l) at c.times.ensures in
    follows _ _ _ _ c.finite3.ensures
    (simp (over_length_refusal, none_met _ _ l, u, told_rules) (unfold over_length_c in refl))
    (unfold over_length_c in simp u)
