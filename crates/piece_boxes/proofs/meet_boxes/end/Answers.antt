use mathlib.Core.Path.{sym, ◌∙◌}
use Rattle.checked.specs.Laws.{opened}
use Rattle.checked.specs.ToldLaws.{stops, gives, none_met, value_is, met_is, rules as told_rules}
use Rattle.piece_boxes.specs.MeetBoxes.{end_c}
use Rattle.piece_boxes.proofs.meet_boxes.end.Goals as goal

pub returns-in_err-t : goal.returns-in_err-t
unfolding end_c
returns-in_err-t c = stops _ _ _ c.from_residual.ensures (simp (sym c.is_end.ensures ∙ c.if-is_end.true, opened, met_is _ _ c.in_err-t.ensures, told_rules))

pub returns-in_err-p : goal.returns-in_err-p
unfolding end_c
returns-in_err-p c =
    let t = c.in_ok-t.ensures in
    let p = simp (← value_is _ _ t) at c.in_err-p.ensures in
    stops _ _ _ c.from_residual-in_err-p.ensures (simp (sym c.is_end.ensures ∙ c.if-is_end.true, opened, none_met _ _ t, met_is _ _ p))

pub returns-in_ok-p : goal.returns-in_ok-p
unfolding end_c
returns-in_ok-p c =
    let t = c.in_ok-t.ensures in
    let p = simp (← value_is _ _ t) at c.in_ok-p.ensures in
    gives _ _
    (simp (sym c.is_end.ensures ∙ c.if-is_end.true, opened, none_met _ _ t, none_met _ _ p))
    (simp (sym c.is_end.ensures ∙ c.if-is_end.true, c.widen.ensures, value_is _ _ p))

pub returns-else-is_end : goal.returns-else-is_end
unfolding end_c
returns-else-is_end c = gives _ _ (simp (sym c.is_end.ensures ∙ c.if-is_end.false)) (simp (sym c.is_end.ensures ∙ c.if-is_end.false))
