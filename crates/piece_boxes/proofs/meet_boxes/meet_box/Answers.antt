use mathlib.Core.Path.{refl}
use Rattle.checked.specs.ToldLaws.{stops, follows, none_met, value_is, met_is, rules as told_rules}
use Rattle.piece_boxes.specs.MeetBoxes.{box_c}
use Rattle.piece_boxes.proofs.meet_boxes.meet_box.Goals as goal

pub returns-in_err-s : goal.returns-in_err-s
unfolding box_c
returns-in_err-s c = stops _ _ _ c.from_residual.ensures (simp (met_is _ _ c.in_err-s.ensures.ends, told_rules))

pub returns : goal.returns
unfolding box_c
returns c =
    let s = c.in_ok-s.ensures.ends in
    let w = simp (← value_is _ _ s) at c.spanned.ensures in
    follows _ _ _ _ w (simp (none_met _ _ s, told_rules)) refl
