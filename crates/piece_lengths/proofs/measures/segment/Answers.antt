use Rattle.checked.specs.ToldLaws.{stops, gives, none_met, value_is, met_is, rules as told_rules}
use Rattle.piece_lengths.specs.Measures.{segment_c}
use Rattle.piece_lengths.proofs.measures.segment.Goals as goal

pub returns-in_err-length : goal.returns-in_err-length
unfolding segment_c
returns-in_err-length c = stops _ _ _ c.from_residual.ensures (simp (met_is _ _ c.in_err-length.ensures, told_rules))

pub returns : goal.returns
unfolding segment_c
returns c =
    let l = c.in_ok-length.ensures in
    gives _ _ (simp (none_met _ _ l, told_rules)) (simp (value_is _ _ l))
