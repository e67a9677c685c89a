use Rattle.developments.specs.Formulas.{unroll_c}
use Rattle.developments.specs.Laws.{unroll_refusal}
use Rattle.checked.specs.ToldLaws.{stops, gives, none_met, value_is, met_is, rules as told_rules}
use Rattle.developments.proofs.formulas.unroll.Goals as goal

pub returns-in_err-y : goal.returns-in_err-y
returns-in_err-y c =
    let a = simp (c.times.ensures, c.dot-v.ensures, c.minus-w.ensures) at c.minus-a.ensures in
    let y = simp (c.dot.ensures, c.cross.ensures, a) at c.in_err-y.ensures in
    stops _ _ _ c.from_residual.ensures (simp (unroll_refusal, met_is _ _ y, told_rules))

pub returns-in_err-x : goal.returns-in_err-x
returns-in_err-x c =
    let a = simp (c.times.ensures, c.dot-v.ensures, c.minus-w.ensures) at c.minus-a.ensures in
    let y = simp (c.dot.ensures, c.cross.ensures, a) at c.in_ok-y.ensures in
    let x = simp (c.dot-2.ensures, a) at c.in_err-x.ensures in
    stops _ _ _ c.from_residual-in_err-x.ensures (simp (unroll_refusal, none_met _ _ y, met_is _ _ x, told_rules))

pub returns-in_err-at : goal.returns-in_err-at
returns-in_err-at c =
    let a = simp (c.times.ensures, c.dot-v.ensures, c.minus-w.ensures) at c.minus-a.ensures in
    let y = simp (c.dot.ensures, c.cross.ensures, a) at c.in_ok-y.ensures in
    let x = simp (c.dot-2.ensures, a) at c.in_ok-x.ensures in
    let at = simp (c.round.ensures, c.atan2.ensures, ← value_is _ _ y, ← value_is _ _ x) at c.in_err-at.ensures in
    stops _ _ _ c.from_residual-in_err-at.ensures
    (simp (unroll_refusal, none_met _ _ y, none_met _ _ x, told_rules) (unfold unroll_c in simp (met_is _ _ at, told_rules)))

pub returns-in_err-r : goal.returns-in_err-r
returns-in_err-r c =
    let a = simp (c.times.ensures, c.dot-v.ensures, c.minus-w.ensures) at c.minus-a.ensures in
    let y = simp (c.dot.ensures, c.cross.ensures, a) at c.in_ok-y.ensures in
    let x = simp (c.dot-2.ensures, a) at c.in_ok-x.ensures in
    let at = simp (c.round.ensures, c.atan2.ensures, ← value_is _ _ y, ← value_is _ _ x) at c.in_ok-at.ensures in
    let r = simp (c.sqrt.ensures, c.dot-3.ensures, a) at c.in_err-r.ensures in
    stops _ _ _ c.from_residual-in_err-r.ensures
    (simp (unroll_refusal, none_met _ _ y, none_met _ _ x, told_rules) (unfold unroll_c in simp (none_met _ _ at, met_is _ _ r, told_rules)))

pub returns : goal.returns
returns c =
    let a = simp (c.times.ensures, c.dot-v.ensures, c.minus-w.ensures) at c.minus-a.ensures in
    let y = simp (c.dot.ensures, c.cross.ensures, a) at c.in_ok-y.ensures in
    let x = simp (c.dot-2.ensures, a) at c.in_ok-x.ensures in
    let at = simp (c.round.ensures, c.atan2.ensures, ← value_is _ _ y, ← value_is _ _ x) at c.in_ok-at.ensures in
    let r = simp (c.sqrt.ensures, c.dot-3.ensures, a) at c.in_ok-r.ensures in
    gives _ _
    (simp (unroll_refusal, none_met _ _ y, none_met _ _ x, told_rules) (unfold unroll_c in simp (none_met _ _ at, none_met _ _ r, told_rules)))
    (unfold unroll_c in simp (value_is _ _ at, value_is _ _ r, c.dot-v.ensures, c.minus-w.ensures))
