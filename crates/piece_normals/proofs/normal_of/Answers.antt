use mathlib.Core.Path.{refl}
use Rattle.developments.specs.Formulas.{along_c}
use Rattle.piece_normals.specs.Normals.{normal_c}
use Rattle.checked.specs.ToldLaws.{stops, follows, none_met, value_is, met_is, rules as told_rules}
use Rattle.piece_normals.specs.Laws.{normal_refusal}
use Rattle.piece_normals.proofs.normal_of.Goals as goal

pub returns-in_err-a : goal.returns-in_err-a
returns-in_err-a c = stops _ _ _ c.from_residual.ensures (simp (normal_refusal, met_is _ _ c.in_err-a.ensures, told_rules))

pub returns-in_err-finite3 : goal.returns-in_err-finite3
returns-in_err-finite3 c =
    let a = c.in_ok-a.ensures in
    let v = simp (c.cross.ensures, c.moves-b.ensures, ← value_is _ _ a) at c.in_err-finite3.ensures in
    stops _ _ _ c.from_residual-in_err-finite3.ensures
    (simp (normal_refusal, none_met _ _ a, told_rules) (unfold along_c in simp (met_is _ _ v, told_rules)))

pub returns : goal.returns
returns c =
    let a = c.in_ok-a.ensures in
    let v = simp (c.cross.ensures, c.moves-b.ensures, ← value_is _ _ a) at c.in_ok-finite3.ensures in
    let u = simp (← value_is _ _ v) at c.unit.ensures in
    follows _ _ _ _ u
    (simp (normal_refusal, none_met _ _ a, told_rules) (unfold along_c in simp (none_met _ _ v, told_rules)))
    (unfold normal_c along_c in refl)
