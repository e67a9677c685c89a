use mathlib.Core.Path.{refl, ◌∙◌}
use Rattle.checked.specs.ToldLaws.{none_met, value_is, met_is, gives, stops, rules as told_rules}
use Rattle.face_paths.specs.PieceRates.{arc_c}
use Rattle.face_paths.specs.Laws.{arc_refusal}
use Rattle.face_paths.proofs.piece_rates.arc_rate.Goals as goal

pub returns-in_err-w : goal.returns-in_err-w
returns-in_err-w c =
    let w = c.in_err-w.ensures in
    stops _ _ _ c.from_residual.ensures (arc_refusal _ _ _ _ ∙ (unfold arc_c in rw (met_is _ _ w) (simp told_rules)))

pub returns-in_err-u : goal.returns-in_err-u
returns-in_err-u c =
    let w = c.in_ok-w.ensures in
    let u = c.in_err-u.ensures in
    stops _ _ _ c.from_residual-in_err-u.ensures (arc_refusal _ _ _ _ ∙ (unfold arc_c in rw (none_met _ _ w, value_is _ _ w, met_is _ _ u) (simp told_rules)))

pub returns-in_err-v : goal.returns-in_err-v
returns-in_err-v c =
    let w = c.in_ok-w.ensures in
    let u = c.in_ok-u.ensures in
    let v = c.in_err-v.ensures in
    stops _ _ _ c.from_residual-in_err-v.ensures (arc_refusal _ _ _ _ ∙ (unfold arc_c in rw (none_met _ _ w, value_is _ _ w, none_met _ _ u, met_is _ _ v) (simp told_rules)))

pub returns-in_err-du : goal.returns-in_err-du
returns-in_err-du c =
    let w = c.in_ok-w.ensures in
    let u = c.in_ok-u.ensures in
    let v = c.in_ok-v.ensures in
    let du = c.in_err-du.ensures in
    stops _ _ _ c.from_residual-in_err-du.ensures (arc_refusal _ _ _ _ ∙ (unfold arc_c in rw (none_met _ _ w, value_is _ _ w, none_met _ _ u, none_met _ _ v, met_is _ _ du) (simp told_rules)))

pub returns : goal.returns
returns c =
    let w = c.in_ok-w.ensures in
    let u = c.in_ok-u.ensures in
    let v = c.in_ok-v.ensures in
    let du = c.in_ok-du.ensures in
    gives _ _
    (arc_refusal _ _ _ _ ∙ (unfold arc_c in rw (none_met _ _ w, value_is _ _ w, none_met _ _ u, none_met _ _ v, none_met _ _ du) (simp told_rules)))
    (unfold arc_c in rw (value_is _ _ w, value_is _ _ u, value_is _ _ v, value_is _ _ du) refl)
