use Rattle.checked.specs.ToldLaws.{none_met, value_is, met_is, gives, stops, rules as told_rules}
use Rattle.chord_counts.specs.Chords.{quotient_c}
use Rattle.chord_counts.specs.Laws.{quotient_refusal}
use Rattle.chord_counts.proofs.formula.quotient.Goals as goal

pub returns-in_err-d : goal.returns-in_err-d
returns-in_err-d c = stops _ _ _ c.from_residual.ensures (simp (quotient_refusal, met_is _ _ c.in_err-d.ensures, told_rules))

pub returns-in_err-a : goal.returns-in_err-a
returns-in_err-a c =
    let d = c.in_ok-d.ensures in
    let a = simp (c.acos.ensures, ← value_is _ _ d) at c.in_err-a.ensures in
    stops _ _ _ c.from_residual-in_err-a.ensures (simp (quotient_refusal, none_met _ _ d, met_is _ _ a, told_rules))

pub returns : goal.returns
returns c =
    let d = c.in_ok-d.ensures in
    let a = simp (c.acos.ensures, ← value_is _ _ d) at c.in_ok-a.ensures in
    gives _ _ (simp (quotient_refusal, none_met _ _ d, none_met _ _ a, told_rules)) (unfold quotient_c in simp (← value_is _ _ a))
