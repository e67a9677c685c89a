use mathlib.Core.Path.{refl}
use Rattle.developments.specs.Formulas.{along_c}
use Rattle.developments.specs.Laws.{along_refusal}
use Rattle.checked.specs.ToldLaws.{stops, follows, none_met, value_is, met_is, rules as told_rules}
use Rattle.developments.proofs.formulas.along.Goals as goal

pub returns-in_err-x : goal.returns-in_err-x
returns-in_err-x c = stops _ _ _ c.from_residual.ensures (simp (along_refusal, met_is _ _ c.in_err-x.ensures, told_rules))

pub returns : goal.returns
returns c =
    let x = c.in_ok-x.ensures in
    let v = simp (← value_is _ _ x) at c.moves.ensures in
    follows _ _ _ _ c.finite3.ensures (simp (along_refusal, none_met _ _ x, v, told_rules) (unfold along_c in refl)) (unfold along_c in simp v)
