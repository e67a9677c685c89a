use Rattle.checked.specs.Laws.{opened}
use Rattle.checked.specs.ToldLaws.{stops, follows, none_met, value_is, met_is, rules as told_rules}
use Rattle.boxes.proofs.Laws.{widened_append}
use Rattle.piece_boxes.specs.SpaceBoxes.{end_arcs_c}
use Rattle.piece_boxes.proofs.space_boxes.with_end_arcs.Goals as goal

pub returns-in_err-low : goal.returns-in_err-low
unfolding end_arcs_c
returns-in_err-low c = stops _ _ _ c.from_residual.ensures (simp (met_is _ _ c.in_err-low.ensures, told_rules))

pub returns : goal.returns
unfolding end_arcs_c
returns c =
    let low = c.in_ok-low.ensures in
    let high = simp (← value_is _ _ low) at c.with_end_arc-2.ensures in
    follows _ _ _ _ high (simp (none_met _ _ low, opened)) (simp widened_append)
