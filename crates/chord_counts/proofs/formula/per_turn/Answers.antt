use Rattle.checked.specs.ToldLaws.{none_met, value_is, met_is, gives, stops, rules as told_rules}
use Rattle.chord_counts.specs.Chords.{per_turn_c}
use Rattle.chord_counts.proofs.formula.per_turn.Goals as goal

pub returns-in_err-n : goal.returns-in_err-n
unfolding per_turn_c
returns-in_err-n c = stops _ _ _ c.from_residual.ensures (simp (met_is _ _ c.in_err-n.ensures, told_rules))

pub returns : goal.returns
unfolding per_turn_c
returns c =
    let n = c.in_ok-n.ensures in
    gives _ _ (simp (none_met _ _ n, told_rules)) (simp (c.clamp.ensures, c.ceil.ensures, value_is _ _ n))
