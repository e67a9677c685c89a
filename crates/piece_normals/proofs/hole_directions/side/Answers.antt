use Rattle.piece_normals.specs.Directions.{side_c}
use Rattle.checked.specs.ToldLaws.{stops, follows, none_met, value_is, met_is, rules as told_rules}
use Rattle.piece_normals.specs.Laws.{side_refusal}
use Rattle.piece_normals.proofs.hole_directions.side.Goals as goal

pub returns-in_err-middle : goal.returns-in_err-middle
returns-in_err-middle c =
    let m = c.in_err-middle.ensures in
    stops _ _ _ c.from_residual.ensures (simp side_refusal (unfold side_c in simp (met_is _ _ m, told_rules)))

pub returns-in_err-g : goal.returns-in_err-g
returns-in_err-g c =
    let m = c.in_ok-middle.ensures in
    let g = simp (← value_is _ _ m) at c.in_err-g.ensures in
    stops _ _ _ c.from_residual-in_err-g.ensures (simp side_refusal (unfold side_c in simp (none_met _ _ m, met_is _ _ g, told_rules)))

pub returns : goal.returns
returns c =
    let m = c.in_ok-middle.ensures in
    let g = simp (← value_is _ _ m) at c.in_ok-g.ensures in
    follows _ _ _ _ c.finite.ensures
    (simp side_refusal (unfold side_c in simp (none_met _ _ m, none_met _ _ g, ← value_is _ _ g, ← value_is _ _ m, told_rules)))
    (unfold side_c in simp (← value_is _ _ g, ← value_is _ _ m))
