use Rattle.checked.specs.ToldLaws.{none_met, value_is, met_is, gives, stops, rules as told_rules}
use Rattle.segments.specs.Segments.{segment_c, bulge_c}
use Rattle.segments.proofs.formula.segment.Goals as goal

pub returns-in_err-s : goal.returns-in_err-s
returns-in_err-s c = stops _ _ _ c.from_residual.ensures (unfold segment_c in rw (met_is _ _ c.in_err-s.ensures) (simp told_rules))

pub returns-then-s : goal.returns-then-s
returns-then-s c =
    let s = c.in_ok-s.ensures in
    gives _ _ (unfold segment_c in simp (none_met _ _ s, value_is _ _ s, c.if-s.true, told_rules)) (unfold segment_c in simp (value_is _ _ s, c.if-s.true))

pub returns-in_err-c : goal.returns-in_err-c
returns-in_err-c c =
    let s = c.in_ok-s.ensures in
    stops _ _ _ c.from_residual-in_err-c.ensures (unfold segment_c bulge_c in simp (none_met _ _ s, value_is _ _ s, c.if-s.false, met_is _ _ c.in_err-c.ensures, told_rules))

pub returns-in_err-surface : goal.returns-in_err-surface
returns-in_err-surface c =
    let s = c.in_ok-s.ensures in
    let m = c.in_ok-c.ensures in
    stops _ _ _ c.from_residual-in_err-surface.ensures
    (unfold segment_c bulge_c in simp (none_met _ _ s, value_is _ _ s, c.if-s.false, none_met _ _ m, value_is _ _ m, met_is _ _ c.in_err-surface.ensures, told_rules))

pub returns-in_ok-surface : goal.returns-in_ok-surface
returns-in_ok-surface c =
    let s = c.in_ok-s.ensures in
    let m = c.in_ok-c.ensures in
    let a = c.in_ok-surface.ensures in
    gives _ _
    (unfold segment_c bulge_c in simp (none_met _ _ s, value_is _ _ s, c.if-s.false, none_met _ _ m, value_is _ _ m, none_met _ _ a, told_rules))
    (unfold segment_c bulge_c in simp (value_is _ _ s, c.if-s.false, value_is _ _ m, value_is _ _ a))
