use Rattle.piece_normals.specs.Normals.{arc_c}
use Rattle.checked.specs.ToldLaws.{stops, gives, none_met, value_is, met_is, rules as told_rules}
use Rattle.piece_normals.proofs.arc_direction.Goals as goal

pub returns-in_err-x : goal.returns-in_err-x
unfolding arc_c
returns-in_err-x c = simp c.if-a.true (stops _ _ _ c.from_residual.ensures (simp (met_is _ _ c.in_err-x.ensures, told_rules)))

pub returns-in_err-y : goal.returns-in_err-y
unfolding arc_c
returns-in_err-y c =
    simp c.if-a.true
    (stops _ _ _ c.from_residual-in_err-y.ensures (simp (none_met _ _ c.in_ok-x.ensures, met_is _ _ c.in_err-y.ensures, told_rules)))

pub returns-in_ok-y : goal.returns-in_ok-y
unfolding arc_c
returns-in_ok-y c =
    simp c.if-a.true
    (gives _ _
    (simp (none_met _ _ c.in_ok-x.ensures, none_met _ _ c.in_ok-y.ensures, told_rules))
    (simp (value_is _ _ c.in_ok-x.ensures, value_is _ _ c.in_ok-y.ensures)))

pub returns-in_err-x-2 : goal.returns-in_err-x-2
unfolding arc_c
returns-in_err-x-2 c = simp c.if-a.false (stops _ _ _ c.from_residual-in_err-x-2.ensures (simp (met_is _ _ c.in_err-x-2.ensures, told_rules)))

pub returns-in_err-y-2 : goal.returns-in_err-y-2
unfolding arc_c
returns-in_err-y-2 c =
    simp c.if-a.false
    (stops _ _ _ c.from_residual-in_err-y-2.ensures (simp (none_met _ _ c.in_ok-x-2.ensures, met_is _ _ c.in_err-y-2.ensures, told_rules)))

pub returns-in_ok-y-2 : goal.returns-in_ok-y-2
unfolding arc_c
returns-in_ok-y-2 c =
    simp c.if-a.false
    (gives _ _
    (simp (none_met _ _ c.in_ok-x-2.ensures, none_met _ _ c.in_ok-y-2.ensures, told_rules))
    (simp (value_is _ _ c.in_ok-x-2.ensures, value_is _ _ c.in_ok-y-2.ensures)))
