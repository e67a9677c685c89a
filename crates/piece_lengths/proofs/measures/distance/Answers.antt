use mathlib.Core.Path.{refl}
use Rattle.checked.specs.ToldLaws.{stops, follows, none_met, value_is, met_is, rules as told_rules}
use Rattle.piece_lengths.specs.Measures.{distance_c}
use Rattle.piece_lengths.specs.MeasuresLaws.{distance_refusal}
use Rattle.piece_lengths.proofs.measures.distance.Goals as goal

pub returns-in_err-x : goal.returns-in_err-x
returns-in_err-x c = stops _ _ _ c.from_residual.ensures (simp (distance_refusal, met_is _ _ c.in_err-x.ensures, told_rules))

pub returns-in_err-y : goal.returns-in_err-y
returns-in_err-y c = stops _ _ _ c.from_residual-in_err-y.ensures (simp (distance_refusal, none_met _ _ c.in_ok-x.ensures, met_is _ _ c.in_err-y.ensures, told_rules))

pub returns : goal.returns
returns c =
    let x = c.in_ok-x.ensures in
    let y = c.in_ok-y.ensures in
    let d = simp (← value_is _ _ x, ← value_is _ _ y) at c.hypot.ensures in
    follows _ _ _ _ c.finite-3.ensures (simp (distance_refusal, none_met _ _ x, none_met _ _ y, d, told_rules) (unfold distance_c in refl)) (unfold distance_c in simp d)
