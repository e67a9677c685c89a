use mathlib.Core.Path.{refl}
use Rattle.checked.specs.ToldLaws.{stops, follows, none_met, value_is, met_is, rules as told_rules}
use Rattle.piece_boxes.specs.SpaceBoxes.{points_c}
use Rattle.piece_boxes.proofs.space_boxes.extended_by.Goals as goal

pub returns-in_err-f : goal.returns-in_err-f
unfolding points_c
returns-in_err-f c = stops _ _ _ c.from_residual.ensures (simp (met_is _ _ c.in_err-f.ensures, told_rules))

pub returns : goal.returns
unfolding points_c
returns c =
    let f = c.in_ok-f.ensures in
    let arcs = simp (← value_is _ _ f) at c.with_end_arcs.ensures in
    follows _ _ _ _ arcs (simp (none_met _ _ f, told_rules)) refl
