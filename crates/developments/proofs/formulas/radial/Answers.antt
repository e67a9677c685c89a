use mathlib.Core.Path.{refl}
use Rattle.developments.specs.Formulas.{radial_at_c}
use Rattle.developments.specs.Laws.{radial_refusal}
use Rattle.checked.specs.ToldLaws.{stops, follows, none_met, value_is, met_is, rules as told_rules}
use Rattle.developments.proofs.formulas.radial.Goals as goal

pub returns-in_err-t : goal.returns-in_err-t
returns-in_err-t c = stops _ _ _ c.from_residual.ensures (simp (radial_refusal, met_is _ _ c.in_err-t.ensures, told_rules))

pub returns : goal.returns
returns c =
    let t = c.in_ok-t.ensures in
    let v = simp (c.times.ensures, c.times-2.ensures, c.cross.ensures, ← value_is _ _ t) at c.plus.ensures in
    follows _ _ _ _ c.finite3.ensures (simp (radial_refusal, none_met _ _ t, v, told_rules) (unfold radial_at_c in refl)) (unfold radial_at_c in simp v)
