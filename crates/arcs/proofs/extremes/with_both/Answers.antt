use Rattle.boxes.proofs.Laws.{widened_append}
use Rattle.checked.specs.ToldLaws.{none_met, value_is, met_is, follows, stops, rules as told_rules}
use Rattle.arcs.specs.Extremes.{both_c}
use Rattle.arcs.specs.ExtremesLaws.{taken_refusal, both_refusal}
use Rattle.arcs.proofs.extremes.with_both.Goals as goal

pub returns-in_err-b : goal.returns-in_err-b
returns-in_err-b c =
    let b = simp (c.side-p.ensures, taken_refusal) at c.in_err-b.ensures in
    stops _ _ _ c.from_residual.ensures (simp (both_refusal, met_is _ _ b, told_rules))

pub returns : goal.returns
returns c =
    let b = simp (c.side-p.ensures, taken_refusal) at c.in_ok-b.ensures in
    let last = simp (c.side-q.ensures, taken_refusal, ← value_is _ _ b) at c.with_candidate-2.ensures in
    follows _ _ _ _ last
    (simp (both_refusal, none_met _ _ b, told_rules))
    (unfold both_c in simp widened_append)
