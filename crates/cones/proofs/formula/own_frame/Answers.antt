use Rattle.cones.specs.Frames.{frame_c}
use Rattle.directions.specs.Directions.{unit_c, over_length_c}
use Rattle.checked.specs.ToldLaws.{stops, gives, none_met, value_is, met_is, rules as told_rules}
use Rattle.cones.specs.Laws.{frame_refusal}
use Rattle.cones.proofs.formula.own_frame.Goals as goal

pub returns-in_err-x : goal.returns-in_err-x
returns-in_err-x c =
    let x = simp c.dot.ensures at c.in_err-x.ensures in
    stops _ _ _ c.from_residual.ensures (simp (frame_refusal, met_is _ _ x, told_rules))

pub returns-in_err-y : goal.returns-in_err-y
returns-in_err-y c =
    let x = simp c.dot.ensures at c.in_ok-x.ensures in
    let y = simp c.dot-2.ensures at c.in_err-y.ensures in
    stops _ _ _ c.from_residual-in_err-y.ensures (simp (frame_refusal, none_met _ _ x, met_is _ _ y, told_rules))

pub returns-in_err-z : goal.returns-in_err-z
returns-in_err-z c =
    let x = simp c.dot.ensures at c.in_ok-x.ensures in
    let y = simp c.dot-2.ensures at c.in_ok-y.ensures in
    let z = simp c.dot-3.ensures at c.in_err-z.ensures in
    stops _ _ _ c.from_residual-in_err-z.ensures (simp (frame_refusal, none_met _ _ x, none_met _ _ y, met_is _ _ z, told_rules))

pub returns-in_err-l : goal.returns-in_err-l
returns-in_err-l c =
    let x = simp c.dot.ensures at c.in_ok-x.ensures in
    let y = simp c.dot-2.ensures at c.in_ok-y.ensures in
    let z = simp c.dot-3.ensures at c.in_ok-z.ensures in
    let w = simp (c.least_axis.ensures, ← value_is _ _ x, ← value_is _ _ y, ← value_is _ _ z) at c.across-w.ensures in
    let l = simp (c.length.ensures, w) at c.in_err-l.ensures in
    stops _ _ _ c.from_residual-in_err-l.ensures (simp (frame_refusal, none_met _ _ x, none_met _ _ y, none_met _ _ z, met_is _ _ l, told_rules))

pub returns-in_err-e2 : goal.returns-in_err-e2
returns-in_err-e2 c =
    let x = simp c.dot.ensures at c.in_ok-x.ensures in
    let y = simp c.dot-2.ensures at c.in_ok-y.ensures in
    let z = simp c.dot-3.ensures at c.in_ok-z.ensures in
    let w = simp (c.least_axis.ensures, ← value_is _ _ x, ← value_is _ _ y, ← value_is _ _ z) at c.across-w.ensures in
    let l = simp (c.length.ensures, w) at c.in_ok-l.ensures in
    let u = simp (← value_is _ _ l, w) at c.times-e1.ensures in
    let e = simp (c.cross.ensures, u) at c.in_err-e2.ensures in
    stops _ _ _ c.from_residual-in_err-e2.ensures
    (simp (frame_refusal, none_met _ _ x, none_met _ _ y, none_met _ _ z, none_met _ _ l, told_rules) (unfold frame_c unit_c over_length_c in met_is _ _ e))

pub returns : goal.returns
returns c =
    let x = simp c.dot.ensures at c.in_ok-x.ensures in
    let y = simp c.dot-2.ensures at c.in_ok-y.ensures in
    let z = simp c.dot-3.ensures at c.in_ok-z.ensures in
    let w = simp (c.least_axis.ensures, ← value_is _ _ x, ← value_is _ _ y, ← value_is _ _ z) at c.across-w.ensures in
    let l = simp (c.length.ensures, w) at c.in_ok-l.ensures in
    let u = simp (← value_is _ _ l, w) at c.times-e1.ensures in
    let e = simp (c.cross.ensures, u) at c.in_ok-e2.ensures in
    gives _ _
    (simp (frame_refusal, none_met _ _ x, none_met _ _ y, none_met _ _ z, none_met _ _ l, told_rules) (unfold frame_c unit_c over_length_c in none_met _ _ e))
    (unfold frame_c unit_c over_length_c in simp (value_is _ _ e, u))
