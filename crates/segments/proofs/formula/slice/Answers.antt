use mathlib.Core.Path.{refl, ◌∙◌}
use Rattle.checked.specs.ToldLaws.{none_met, value_is, met_is, gives, stops, rules as told_rules}
use Rattle.segments.specs.Segments.{slice_c}
use Rattle.segments.specs.Laws.{slice_refusal}
use Rattle.segments.proofs.formula.slice.Goals as goal

pub returns-in_err-turn : goal.returns-in_err-turn
returns-in_err-turn c =
    let turn = c.in_err-turn.ensures in
    stops _ _ _ c.from_residual.ensures (slice_refusal _ _ _ _ ∙ (unfold slice_c in rw (met_is _ _ turn) (simp told_rules)))

pub returns-in_err-q : goal.returns-in_err-q
returns-in_err-q c =
    let turn = c.in_ok-turn.ensures in
    let q = c.in_err-q.ensures in
    stops _ _ _ c.from_residual-in_err-q.ensures (slice_refusal _ _ _ _ ∙ (unfold slice_c in rw (none_met _ _ turn, value_is _ _ turn, met_is _ _ q) (simp told_rules)))

pub returns-in_err-s : goal.returns-in_err-s
returns-in_err-s c =
    let turn = c.in_ok-turn.ensures in
    let q = c.in_ok-q.ensures in
    let s = c.in_err-s.ensures in
    stops _ _ _ c.from_residual-in_err-s.ensures (slice_refusal _ _ _ _ ∙ (unfold slice_c in rw (none_met _ _ turn, value_is _ _ turn, none_met _ _ q, value_is _ _ q, met_is _ _ s) (simp told_rules)))

pub returns-in_err-a : goal.returns-in_err-a
returns-in_err-a c =
    let turn = c.in_ok-turn.ensures in
    let q = c.in_ok-q.ensures in
    let s = c.in_ok-s.ensures in
    let a = c.in_err-a.ensures in
    stops _ _ _ c.from_residual-in_err-a.ensures (slice_refusal _ _ _ _ ∙ (unfold slice_c in rw (none_met _ _ turn, value_is _ _ turn, none_met _ _ q, value_is _ _ q, none_met _ _ s, value_is _ _ s, met_is _ _ a) (simp told_rules)))

pub returns-in_err-d : goal.returns-in_err-d
returns-in_err-d c =
    let turn = c.in_ok-turn.ensures in
    let q = c.in_ok-q.ensures in
    let s = c.in_ok-s.ensures in
    let a = c.in_ok-a.ensures in
    let d = simp (c.dot.ensures) at c.in_err-d.ensures in
    stops _ _ _ c.from_residual-in_err-d.ensures (slice_refusal _ _ _ _ ∙ (unfold slice_c in rw (none_met _ _ turn, value_is _ _ turn, none_met _ _ q, value_is _ _ q, none_met _ _ s, value_is _ _ s, none_met _ _ a, value_is _ _ a, met_is _ _ d) (simp told_rules)))

pub returns-in_err-area : goal.returns-in_err-area
returns-in_err-area c =
    let turn = c.in_ok-turn.ensures in
    let q = c.in_ok-q.ensures in
    let s = c.in_ok-s.ensures in
    let a = c.in_ok-a.ensures in
    let d = simp (c.dot.ensures) at c.in_ok-d.ensures in
    let area = simp (c.side.ensures) at c.in_err-area.ensures in
    stops _ _ _ c.from_residual-in_err-area.ensures (slice_refusal _ _ _ _ ∙ (unfold slice_c in rw (none_met _ _ turn, value_is _ _ turn, none_met _ _ q, value_is _ _ q, none_met _ _ s, value_is _ _ s, none_met _ _ a, value_is _ _ a, none_met _ _ d, value_is _ _ d, met_is _ _ area) (simp told_rules)))

pub returns : goal.returns
returns c =
    let turn = c.in_ok-turn.ensures in
    let q = c.in_ok-q.ensures in
    let s = c.in_ok-s.ensures in
    let a = c.in_ok-a.ensures in
    let d = simp (c.dot.ensures) at c.in_ok-d.ensures in
    let area = simp (c.side.ensures) at c.in_ok-area.ensures in
    gives _ _
    (slice_refusal _ _ _ _ ∙ (unfold slice_c in rw (none_met _ _ turn, value_is _ _ turn, none_met _ _ q, value_is _ _ q, none_met _ _ s, value_is _ _ s, none_met _ _ a, value_is _ _ a, none_met _ _ d, value_is _ _ d, none_met _ _ area) (simp told_rules)))
    (unfold slice_c in rw (value_is _ _ turn, value_is _ _ q, value_is _ _ s, value_is _ _ a, value_is _ _ d, value_is _ _ area) refl)
