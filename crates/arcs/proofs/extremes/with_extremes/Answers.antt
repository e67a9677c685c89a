use Rattle.boxes.proofs.Laws.{widened_none}
use Rattle.checked.specs.ToldLaws.{none_met, value_is, met_is, follows, gives, stops, rules as told_rules}
use Rattle.arcs.specs.Extremes.{extremes_c}
use Rattle.arcs.specs.ExtremesLaws.{extremes_refusal}
use Rattle.arcs.proofs.extremes.with_extremes.Goals as goal

pub returns-in_err-len : goal.returns-in_err-len
returns-in_err-len c =
    let len = simp (c.length.ensures, c.across-w.ensures, c.across.ensures) at c.in_err-len.ensures in
    stops _ _ _ c.from_residual.ensures (simp (extremes_refusal, met_is _ _ len, told_rules))

pub returns-then-len : goal.returns-then-len
returns-then-len c =
    let len = simp (c.length.ensures, c.across-w.ensures, c.across.ensures) at c.in_ok-len.ensures in
    let positive = simp (← value_is _ _ len) at c.if-len.true in
    let both = simp (c.across-w.ensures, c.across.ensures, ← value_is _ _ len) at c.with_both.ensures in
    follows _ _ _ _ both
    (simp (extremes_refusal, none_met _ _ len, positive, told_rules))
    (unfold extremes_c in simp positive)

pub returns-else-len : goal.returns-else-len
returns-else-len c =
    let len = simp (c.length.ensures, c.across-w.ensures, c.across.ensures) at c.in_ok-len.ensures in
    let none = simp (← value_is _ _ len) at c.if-len.false in
    gives _ _
    (simp (extremes_refusal, none_met _ _ len, none, told_rules))
    (unfold extremes_c in simp (none, widened_none))
