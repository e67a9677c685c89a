use Rattle.checked.specs.ToldLaws.{none_met, value_is, met_is, gives, stops, rules as told_rules}
use Rattle.arcs.specs.Extremes.{taken_c}
use Rattle.arcs.proofs.extremes.with_candidate.Goals as goal

pub returns-in_err-s : goal.returns-in_err-s
unfolding taken_c
returns-in_err-s c = stops _ _ _ c.from_residual.ensures (simp (met_is _ _ c.in_err-s.ensures, told_rules))

pub returns : goal.returns
unfolding taken_c
returns c =
    let s = c.in_ok-s.ensures in
    gives _ _ (simp (none_met _ _ s, told_rules)) (simp (c.widened_where.ensures, value_is _ _ s))
