use mathlib.Core.Path.{refl, ◌∙◌}
use Rattle.checked.specs.ToldLaws.{none_met, value_is, met_is, gives, stops, rules as told_rules}
use Rattle.face_paths.specs.PieceRates.{straight_c}
use Rattle.face_paths.specs.Laws.{straight_refusal}
use Rattle.face_paths.proofs.piece_rates.straight_rate.Goals as goal

pub returns-in_err-du : goal.returns-in_err-du
returns-in_err-du c =
    let du = c.in_err-du.ensures in
    stops _ _ _ c.from_residual.ensures (straight_refusal _ _ _ ∙ (unfold straight_c in rw (met_is _ _ du) (simp told_rules)))

pub returns-in_err-dv : goal.returns-in_err-dv
returns-in_err-dv c =
    let du = c.in_ok-du.ensures in
    let dv = c.in_err-dv.ensures in
    stops _ _ _ c.from_residual-in_err-dv.ensures (straight_refusal _ _ _ ∙ (unfold straight_c in rw (none_met _ _ du, value_is _ _ du, met_is _ _ dv) (simp told_rules)))

pub returns-in_err-u : goal.returns-in_err-u
returns-in_err-u c =
    let du = c.in_ok-du.ensures in
    let dv = c.in_ok-dv.ensures in
    let u = c.in_err-u.ensures in
    stops _ _ _ c.from_residual-in_err-u.ensures (straight_refusal _ _ _ ∙ (unfold straight_c in rw (none_met _ _ du, value_is _ _ du, none_met _ _ dv, value_is _ _ dv, met_is _ _ u) (simp told_rules)))

pub returns-in_err-v : goal.returns-in_err-v
returns-in_err-v c =
    let du = c.in_ok-du.ensures in
    let dv = c.in_ok-dv.ensures in
    let u = c.in_ok-u.ensures in
    let v = c.in_err-v.ensures in
    stops _ _ _ c.from_residual-in_err-v.ensures (straight_refusal _ _ _ ∙ (unfold straight_c in rw (none_met _ _ du, value_is _ _ du, none_met _ _ dv, value_is _ _ dv, none_met _ _ u, met_is _ _ v) (simp told_rules)))

pub returns : goal.returns
returns c =
    let du = c.in_ok-du.ensures in
    let dv = c.in_ok-dv.ensures in
    let u = c.in_ok-u.ensures in
    let v = c.in_ok-v.ensures in
    gives _ _
    (straight_refusal _ _ _ ∙ (unfold straight_c in rw (none_met _ _ du, value_is _ _ du, none_met _ _ dv, value_is _ _ dv, none_met _ _ u, none_met _ _ v) (simp told_rules)))
    (unfold straight_c in rw (value_is _ _ du, value_is _ _ dv, value_is _ _ u, value_is _ _ v) refl)
