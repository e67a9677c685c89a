use Rattle.meets.specs.Quadratic.{intersection_c}
use Rattle.checked.specs.ToldLaws.{stops, gives, none_met, value_is, met_is, rules as told_rules}
use Rattle.meets.specs.QuadraticLaws.{reach_refusal}
use Rattle.meets.proofs.quadratic.intersect.Goals as goal

pub returns-in_err-x : goal.returns-in_err-x
returns-in_err-x c = stops _ _ _ c.from_residual.ensures (simp (reach_refusal, met_is _ _ c.in_err-x.ensures, told_rules))

pub returns-in_err-root : goal.returns-in_err-root
returns-in_err-root c =
    let x = c.in_ok-x.ensures in
    let root = simp (c.sqrt.ensures, c.dot.ensures, c.dot-b.ensures, c.dot-aa.ensures, c.across-af.ensures, c.across-w.ensures, c.minus.ensures, c.plus-p0.ensures, c.times-3.ensures, c.plus-around.ensures, c.times-2.ensures, c.times.ensures) at c.in_err-root.ensures in
    stops _ _ _ c.from_residual-in_err-root.ensures
    (simp (reach_refusal, none_met _ _ x, told_rules) (unfold intersection_c in simp (value_is _ _ x, met_is _ _ root, told_rules)))

pub returns-in_err-t : goal.returns-in_err-t
returns-in_err-t c =
    let x = c.in_ok-x.ensures in
    let root = simp (c.sqrt.ensures, c.dot.ensures, c.dot-b.ensures, c.dot-aa.ensures, c.across-af.ensures, c.across-w.ensures, c.minus.ensures, c.plus-p0.ensures, c.times-3.ensures, c.plus-around.ensures, c.times-2.ensures, c.times.ensures) at c.in_ok-root.ensures in
    let t = simp (← value_is _ _ root, c.dot.ensures, c.dot-b.ensures, c.dot-aa.ensures, c.across-af.ensures, c.across-w.ensures, c.minus.ensures, c.plus-p0.ensures, c.times-3.ensures, c.plus-around.ensures, c.times-2.ensures, c.times.ensures) at c.in_err-t.ensures in
    stops _ _ _ c.from_residual-in_err-t.ensures
    (simp (reach_refusal, none_met _ _ x, told_rules) (unfold intersection_c in simp (value_is _ _ x, none_met _ _ root, met_is _ _ t, told_rules)))

pub returns : goal.returns
returns c =
    let x = c.in_ok-x.ensures in
    let root = simp (c.sqrt.ensures, c.dot.ensures, c.dot-b.ensures, c.dot-aa.ensures, c.across-af.ensures, c.across-w.ensures, c.minus.ensures, c.plus-p0.ensures, c.times-3.ensures, c.plus-around.ensures, c.times-2.ensures, c.times.ensures) at c.in_ok-root.ensures in
    let t = simp (← value_is _ _ root, c.dot.ensures, c.dot-b.ensures, c.dot-aa.ensures, c.across-af.ensures, c.across-w.ensures, c.minus.ensures, c.plus-p0.ensures, c.times-3.ensures, c.plus-around.ensures, c.times-2.ensures, c.times.ensures) at c.in_ok-t.ensures in
    gives _ _
    (simp (reach_refusal, none_met _ _ x, told_rules) (unfold intersection_c in simp (value_is _ _ x, none_met _ _ root, none_met _ _ t, told_rules)))
    (simp (c.dot-aa.ensures, c.across-af.ensures, c.across-w.ensures, c.minus.ensures, c.plus-p0.ensures, c.times-3.ensures, c.plus-around.ensures, c.times-2.ensures, c.times.ensures, ← value_is _ _ root, ← value_is _ _ t) (unfold intersection_c in simp (value_is _ _ x)))
