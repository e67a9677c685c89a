use Rattle.piece_normals.specs.Directions.{gradient_c}
use Rattle.checked.specs.ToldLaws.{stops, gives, none_met, value_is, met_is, rules as told_rules}
use Rattle.piece_normals.specs.HoleDirectionsLaws.{gradient_refusal}
use Rattle.piece_normals.proofs.hole_directions.gradient.Goals as goal

pub returns-in_err-t : goal.returns-in_err-t
returns-in_err-t c =
    let t = c.in_err-t.ensures in
    stops _ _ _ c.from_residual.ensures (simp gradient_refusal (unfold gradient_c in simp (met_is _ _ t, told_rules)))

pub returns-in_err-x : goal.returns-in_err-x
returns-in_err-x c =
    let t = c.in_ok-t.ensures in
    let x = simp (← value_is _ _ t) at c.in_err-x.ensures in
    stops _ _ _ c.from_residual-in_err-x.ensures (simp gradient_refusal (unfold gradient_c in simp (none_met _ _ t, met_is _ _ x, told_rules)))

pub returns-in_err-y : goal.returns-in_err-y
returns-in_err-y c =
    let t = c.in_ok-t.ensures in
    let x = simp (← value_is _ _ t) at c.in_ok-x.ensures in
    let y = simp (← value_is _ _ t) at c.in_err-y.ensures in
    stops _ _ _ c.from_residual-in_err-y.ensures (simp gradient_refusal (unfold gradient_c in simp (none_met _ _ t, none_met _ _ x, met_is _ _ y, told_rules)))

pub returns-in_err-g : goal.returns-in_err-g
returns-in_err-g c =
    let t = c.in_ok-t.ensures in
    let x = simp (← value_is _ _ t) at c.in_ok-x.ensures in
    let y = simp (← value_is _ _ t) at c.in_ok-y.ensures in
    let g = simp (c.dot.ensures, c.times.ensures, c.across-w.ensures, c.minus.ensures, ← value_is _ _ x, ← value_is _ _ y, ← value_is _ _ t) at c.in_err-g.ensures in
    stops _ _ _ c.from_residual-in_err-g.ensures (simp gradient_refusal (unfold gradient_c in simp (none_met _ _ t, none_met _ _ x, none_met _ _ y, met_is _ _ g, told_rules)))

pub returns : goal.returns
returns c =
    let t = c.in_ok-t.ensures in
    let x = simp (← value_is _ _ t) at c.in_ok-x.ensures in
    let y = simp (← value_is _ _ t) at c.in_ok-y.ensures in
    let g = simp (c.dot.ensures, c.times.ensures, c.across-w.ensures, c.minus.ensures, ← value_is _ _ x, ← value_is _ _ y, ← value_is _ _ t) at c.in_ok-g.ensures in
    gives _ _
    (simp gradient_refusal (unfold gradient_c in simp (none_met _ _ t, none_met _ _ x, none_met _ _ y, none_met _ _ g, told_rules)))
    (unfold gradient_c in simp (c.across-w.ensures, c.minus.ensures, ← value_is _ _ g, ← value_is _ _ y, ← value_is _ _ x))
