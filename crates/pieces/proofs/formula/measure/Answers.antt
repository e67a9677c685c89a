use Rattle.checked.specs.ToldLaws.{stops, none_met, value_is, met_is, rules as told_rules}
use Rattle.piece_curves.specs.PieceCurves.{kind_c, curve_c}
use Rattle.piece_lengths.specs.Measures.{measure_c}
use Rattle.pieces.specs.Pieces.{run_c}
use Rattle.pieces.proofs.formula.measure.Goals as goal

pub returns-in_err-run-in-Some-default : goal.returns-in_err-run-in-Some-default
returns-in_err-run-in-Some-default c = stops _ _ _ c.from_residual.ensures (simp (met_is _ _ c.in_err-run-in-Some-default.ensures, told_rules))

pub returns-in_ok-run-in-Some-default : goal.returns-in_ok-run-in-Some-default
returns-in_ok-run-in-Some-default c =
    let r = c.in_ok-run-in-Some-default.ensures in
    simp (c.measure_of.ensures, none_met _ _ r, value_is _ _ r, told_rules)

pub returns-in-None-Some : goal.returns-in-None-Some
unfolding run_c curve_c kind_c measure_c
returns-in-None-Some c = simp (c.arc_measure.ensures, c.ends.ensures, c.in-None-Some.is-0, c.in-None-Some.is-1, told_rules)

pub returns-in-None-None : goal.returns-in-None-None
unfolding run_c curve_c kind_c measure_c
returns-in-None-None c = simp (c.segment.ensures, c.ends-in-None-None.ensures, c.in-None-None.is-0, c.in-None-None.is-1, told_rules)
