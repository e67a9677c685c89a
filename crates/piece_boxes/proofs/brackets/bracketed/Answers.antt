use Rattle.checked.specs.Laws.{opened}
use Rattle.checked.specs.ToldLaws.{stops, gives, none_met, value_is, met_is, rules as told_rules}
use Rattle.piece_boxes.specs.Brackets.{bracket_c}
use Rattle.piece_boxes.proofs.brackets.bracketed.Goals as goal

pub returns-then-agree : goal.returns-then-agree
unfolding bracket_c
returns-then-agree c = gives _ _ (simp (c.if-agree.true, ← c.agree.ensures)) (simp (c.if-agree.true, ← c.agree.ensures))

pub returns-in_err-lo : goal.returns-in_err-lo
unfolding bracket_c
returns-in_err-lo c = stops _ _ _ c.from_residual.ensures (simp (c.if-agree.false, ← c.agree.ensures, opened, met_is _ _ c.in_err-lo.ensures, told_rules))

pub returns-in_err-hi : goal.returns-in_err-hi
unfolding bracket_c
returns-in_err-hi c =
    let lo = c.in_ok-lo.ensures in
    stops _ _ _ c.from_residual-in_err-hi.ensures (simp (c.if-agree.false, ← c.agree.ensures, opened, none_met _ _ lo, met_is _ _ c.in_err-hi.ensures, told_rules))

pub returns-in_err-p : goal.returns-in_err-p
unfolding bracket_c
returns-in_err-p c =
    let lo = c.in_ok-lo.ensures in
    let hi = c.in_ok-hi.ensures in
    let p = simp (← value_is _ _ lo, ← value_is _ _ hi) at c.in_err-p.ensures in
    stops _ _ _ c.from_residual-in_err-p.ensures (simp (c.if-agree.false, ← c.agree.ensures, opened, none_met _ _ lo, none_met _ _ hi, met_is _ _ p))

pub returns-in_ok-p : goal.returns-in_ok-p
unfolding bracket_c
returns-in_ok-p c =
    let lo = c.in_ok-lo.ensures in
    let hi = c.in_ok-hi.ensures in
    let p = simp (← value_is _ _ lo, ← value_is _ _ hi) at c.in_ok-p.ensures in
    gives _ _
    (simp (c.if-agree.false, ← c.agree.ensures, opened, none_met _ _ lo, none_met _ _ hi, none_met _ _ p))
    (simp (c.if-agree.false, ← c.agree.ensures, c.widen.ensures, value_is _ _ p))
