use Rattle.checked.specs.Laws.{opened}
use Rattle.checked.specs.ToldLaws.{stops, gives, none_met, value_is, met_is, rules as told_rules}
use Rattle.piece_lengths.specs.Measures.{arc_c}
use Rattle.piece_lengths.proofs.measures.arc_measure.Goals as goal

pub returns-in_err-radius : goal.returns-in_err-radius
unfolding arc_c
returns-in_err-radius c = stops _ _ _ c.from_residual.ensures (simp (met_is _ _ c.in_err-radius.ensures, told_rules))

pub returns-in_err-phi : goal.returns-in_err-phi
unfolding arc_c
returns-in_err-phi c = stops _ _ _ c.from_residual-in_err-phi.ensures (simp (none_met _ _ c.in_ok-radius.ensures, met_is _ _ c.in_err-phi.ensures, told_rules))

pub returns-in_err-length : goal.returns-in_err-length
unfolding arc_c
returns-in_err-length c =
    let r = c.in_ok-radius.ensures in
    let t = c.in_ok-phi.ensures in
    let l = simp (c.fabs-turn.ensures, ← value_is _ _ r, ← value_is _ _ t) at c.in_err-length.ensures in
    stops _ _ _ c.from_residual-in_err-length.ensures (simp (opened, none_met _ _ r, none_met _ _ t, met_is _ _ l))

pub returns : goal.returns
unfolding arc_c
returns c =
    let r = c.in_ok-radius.ensures in
    let t = c.in_ok-phi.ensures in
    let l = simp (c.fabs-turn.ensures, ← value_is _ _ r, ← value_is _ _ t) at c.in_ok-length.ensures in
    gives _ _
    (simp (opened, none_met _ _ r, none_met _ _ t, none_met _ _ l))
    (simp (value_is _ _ r, value_is _ _ t, ← c.fabs-turn.ensures, value_is _ _ c.in_ok-length.ensures))
