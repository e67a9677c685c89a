use Rattle.surfaces.specs.Normals.{cone_c}
use Rattle.surfaces.specs.Laws.{cone_refusal}
use Rattle.checked.specs.ToldLaws.{stops, gives, none_met, value_is, met_is, rules as told_rules}
use Rattle.surfaces.proofs.normals.cone.Goals as goal

pub returns-in_err-r : goal.returns-in_err-r
returns-in_err-r c = stops _ _ _ c.from_residual.ensures (simp (cone_refusal, met_is _ _ c.in_err-r.ensures, told_rules))

pub returns-in_err-u : goal.returns-in_err-u
returns-in_err-u c =
    let r = c.in_ok-r.ensures in
    let u = simp (c.minus.ensures, c.times.ensures, ← value_is _ _ r) at c.in_err-u.ensures in
    stops _ _ _ c.from_residual-in_err-u.ensures (simp (cone_refusal, none_met _ _ r, met_is _ _ u, told_rules))

pub returns : goal.returns
returns c =
    let r = c.in_ok-r.ensures in
    let u = simp (c.minus.ensures, c.times.ensures, ← value_is _ _ r) at c.in_ok-u.ensures in
    gives _ _ (simp (cone_refusal, none_met _ _ r, none_met _ _ u, told_rules)) (unfold cone_c in simp (value_is _ _ u, c.faced.ensures))
