use Rattle.checked.specs.ToldLaws.{stops, gives, none_met, value_is, met_is, rules as told_rules}
use Rattle.piece_boxes.specs.MeetBoxesLaws.{sample_refusal, sample_value}
use Rattle.piece_boxes.proofs.meet_boxes.sample.Goals as goal

pub returns-in_err-t : goal.returns-in_err-t
returns-in_err-t c = stops _ _ _ c.from_residual.ensures (simp (sample_refusal, met_is _ _ c.in_err-t.ensures, told_rules))

pub returns-in_err-x : goal.returns-in_err-x
returns-in_err-x c =
    let t = c.in_ok-t.ensures in
    let x = simp (c.in_err-x.was, ← value_is _ _ t) at c.motion-m.ensures.u in
    stops _ _ _ c.from_residual-in_err-x.ensures (simp (sample_refusal, none_met _ _ t, met_is _ _ x, told_rules))

pub returns-in_err-y : goal.returns-in_err-y
returns-in_err-y c =
    let t = c.in_ok-t.ensures in
    let x = simp (c.in_ok-x.was, ← value_is _ _ t) at c.motion-m.ensures.u in
    let y = simp (c.in_err-y.was, ← value_is _ _ t) at c.motion-m.ensures.v in
    stops _ _ _ c.from_residual-in_err-y.ensures (simp (sample_refusal, none_met _ _ t, none_met _ _ x, met_is _ _ y, told_rules))

pub returns : goal.returns
returns c =
    let t = c.in_ok-t.ensures in
    let x = simp (c.in_ok-x.was, ← value_is _ _ t) at c.motion-m.ensures.u in
    let y = simp (c.in_ok-y.was, ← value_is _ _ t) at c.motion-m.ensures.v in
    gives _ _ (simp (sample_refusal, none_met _ _ t, none_met _ _ x, none_met _ _ y, told_rules)) (simp (sample_value, value_is _ _ x, value_is _ _ y))
