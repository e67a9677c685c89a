use Rattle.checked.specs.ToldLaws.{exit_is, stops, follows, none_met, value_is, met_is, rules as told_rules}
use Rattle.piece_lengths.specs.Measures.{longer_c}
use Rattle.piece_lengths.specs.MeasuresLaws.{longer_refusal}
use Rattle.piece_lengths.proofs.measures.longer.Goals as goal

pub returns-in_err-l : goal.returns-in_err-l
returns-in_err-l c = simp c.in_err-l.was (exit_is _ _ c.from_residual.ensures)

pub returns-in_err-d : goal.returns-in_err-d
returns-in_err-d c = simp c.in_ok-l.was (stops _ _ _ c.from_residual-in_err-d.ensures (simp (longer_refusal, met_is _ _ c.in_err-d.ensures, told_rules)))

pub returns : goal.returns
returns c =
    let d = c.in_ok-d.ensures in
    simp c.in_ok-l.was
    (follows _ _ _ _ c.finite.ensures (simp (longer_refusal, none_met _ _ d, told_rules) (unfold longer_c in simp (value_is _ _ d))) (unfold longer_c in simp (value_is _ _ d)))
