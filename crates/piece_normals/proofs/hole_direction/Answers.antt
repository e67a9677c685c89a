use Rattle.piece_normals.specs.Normals.{hole_c}
use Rattle.checked.specs.ToldLaws.{stops, gives, none_met, value_is, met_is, rules as told_rules}
use Rattle.piece_normals.proofs.hole_direction.Goals as goal

pub returns-in_err-g : goal.returns-in_err-g
returns-in_err-g c =
    let g = c.in_err-g.ensures in
    stops _ _ _ c.from_residual.ensures (unfold hole_c in simp (met_is _ _ g, told_rules))

pub returns-in_err-c : goal.returns-in_err-c
returns-in_err-c c =
    let g = c.in_ok-g.ensures in
    let course = c.in_err-c.ensures in
    stops _ _ _ c.from_residual-in_err-c.ensures (unfold hole_c in simp (none_met _ _ g, met_is _ _ course, told_rules))

pub returns-in_err-s : goal.returns-in_err-s
returns-in_err-s c =
    let g = c.in_ok-g.ensures in
    let course = c.in_ok-c.ensures in
    let s = simp (← value_is _ _ course) at c.in_err-s.ensures in
    stops _ _ _ c.from_residual-in_err-s.ensures (unfold hole_c in simp (none_met _ _ g, none_met _ _ course, met_is _ _ s, told_rules))

pub returns : goal.returns
returns c =
    let g = c.in_ok-g.ensures in
    let course = c.in_ok-c.ensures in
    let s = simp (← value_is _ _ course) at c.in_ok-s.ensures in
    gives _ _
    (unfold hole_c in simp (none_met _ _ g, none_met _ _ course, none_met _ _ s, told_rules))
    (unfold hole_c in simp (c.facing.ensures, ← value_is _ _ s, ← value_is _ _ g))
