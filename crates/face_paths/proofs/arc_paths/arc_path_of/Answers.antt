use mathlib.Core.Path.{refl, ◌∙◌}
use Rattle.checked.specs.ToldLaws.{none_met, value_is, met_is, gives, stops, rules as told_rules}
use Rattle.face_paths.specs.ArcPaths.{arc_path_of_c}
use Rattle.face_paths.specs.Laws.{arc_of_refusal}
use Rattle.face_paths.proofs.arc_paths.arc_path_of.Goals as goal

pub returns-in_err-s : goal.returns-in_err-s
returns-in_err-s c =
    let s = c.in_err-s.ensures in
    stops _ _ _ c.from_residual.ensures (arc_of_refusal _ _ _ _ ∙ (unfold arc_path_of_c in rw (met_is _ _ s) (simp told_rules)))

pub returns-in_err-d : goal.returns-in_err-d
returns-in_err-d c =
    let s = c.in_ok-s.ensures in
    let d = simp (c.dot.ensures) at c.in_err-d.ensures in
    stops _ _ _ c.from_residual-in_err-d.ensures (arc_of_refusal _ _ _ _ ∙ (unfold arc_path_of_c in rw (none_met _ _ s, value_is _ _ s, met_is _ _ d) (simp told_rules)))

pub returns-in_err-turn : goal.returns-in_err-turn
returns-in_err-turn c =
    let s = c.in_ok-s.ensures in
    let d = simp (c.dot.ensures) at c.in_ok-d.ensures in
    let turn = simp (c.side.ensures) at c.in_err-turn.ensures in
    stops _ _ _ c.from_residual-in_err-turn.ensures (arc_of_refusal _ _ _ _ ∙ (unfold arc_path_of_c in rw (none_met _ _ s, value_is _ _ s, none_met _ _ d, value_is _ _ d, met_is _ _ turn) (simp told_rules)))

pub returns-in_err-start : goal.returns-in_err-start
returns-in_err-start c =
    let s = c.in_ok-s.ensures in
    let d = simp (c.dot.ensures) at c.in_ok-d.ensures in
    let turn = simp (c.side.ensures) at c.in_ok-turn.ensures in
    let start = c.in_err-start.ensures in
    stops _ _ _ c.from_residual-in_err-start.ensures (arc_of_refusal _ _ _ _ ∙ (unfold arc_path_of_c in rw (none_met _ _ s, value_is _ _ s, none_met _ _ d, value_is _ _ d, none_met _ _ turn, value_is _ _ turn, met_is _ _ start) (simp told_rules)))

pub returns-in_err-z : goal.returns-in_err-z
returns-in_err-z c =
    let s = c.in_ok-s.ensures in
    let d = simp (c.dot.ensures) at c.in_ok-d.ensures in
    let turn = simp (c.side.ensures) at c.in_ok-turn.ensures in
    let start = c.in_ok-start.ensures in
    let z = simp (c.dot-2.ensures, c.minus.ensures) at c.in_err-z.ensures in
    stops _ _ _ c.from_residual-in_err-z.ensures (arc_of_refusal _ _ _ _ ∙ (unfold arc_path_of_c in rw (none_met _ _ s, value_is _ _ s, none_met _ _ d, value_is _ _ d, none_met _ _ turn, value_is _ _ turn, none_met _ _ start, met_is _ _ z) (simp told_rules)))

pub returns-in_err-q : goal.returns-in_err-q
returns-in_err-q c =
    let s = c.in_ok-s.ensures in
    let d = simp (c.dot.ensures) at c.in_ok-d.ensures in
    let turn = simp (c.side.ensures) at c.in_ok-turn.ensures in
    let start = c.in_ok-start.ensures in
    let z = simp (c.dot-2.ensures, c.minus.ensures) at c.in_ok-z.ensures in
    let q = simp (c.fabs.ensures) at c.in_err-q.ensures in
    stops _ _ _ c.from_residual-in_err-q.ensures (arc_of_refusal _ _ _ _ ∙ (unfold arc_path_of_c in rw (none_met _ _ s, value_is _ _ s, none_met _ _ d, value_is _ _ d, none_met _ _ turn, value_is _ _ turn, none_met _ _ start, none_met _ _ z, met_is _ _ q) (simp told_rules)))

pub returns-in_err-stretches : goal.returns-in_err-stretches
returns-in_err-stretches c =
    let s = c.in_ok-s.ensures in
    let d = simp (c.dot.ensures) at c.in_ok-d.ensures in
    let turn = simp (c.side.ensures) at c.in_ok-turn.ensures in
    let start = c.in_ok-start.ensures in
    let z = simp (c.dot-2.ensures, c.minus.ensures) at c.in_ok-z.ensures in
    let q = simp (c.fabs.ensures) at c.in_ok-q.ensures in
    let stretches = c.in_err-stretches.ensures in
    stops _ _ _ c.from_residual-in_err-stretches.ensures (arc_of_refusal _ _ _ _ ∙ (unfold arc_path_of_c in rw (none_met _ _ s, value_is _ _ s, none_met _ _ d, value_is _ _ d, none_met _ _ turn, value_is _ _ turn, none_met _ _ start, none_met _ _ z, none_met _ _ q, value_is _ _ q, met_is _ _ stretches) (simp told_rules)))

pub returns : goal.returns
returns c =
    let s = c.in_ok-s.ensures in
    let d = simp (c.dot.ensures) at c.in_ok-d.ensures in
    let turn = simp (c.side.ensures) at c.in_ok-turn.ensures in
    let start = c.in_ok-start.ensures in
    let z = simp (c.dot-2.ensures, c.minus.ensures) at c.in_ok-z.ensures in
    let q = simp (c.fabs.ensures) at c.in_ok-q.ensures in
    let stretches = c.in_ok-stretches.ensures in
    gives _ _
    (arc_of_refusal _ _ _ _ ∙ (unfold arc_path_of_c in rw (none_met _ _ s, value_is _ _ s, none_met _ _ d, value_is _ _ d, none_met _ _ turn, value_is _ _ turn, none_met _ _ start, none_met _ _ z, none_met _ _ q, value_is _ _ q, none_met _ _ stretches) (simp told_rules)))
    (unfold arc_path_of_c in rw (value_is _ _ s, value_is _ _ d, value_is _ _ turn, value_is _ _ start, value_is _ _ z, value_is _ _ q, value_is _ _ stretches) refl)
