use mathlib.Core.Path.{refl, ◌∙◌}
use Rattle.checked.specs.ToldLaws.{none_met, value_is, met_is, gives, stops, rules as told_rules}
use Rattle.face_paths.specs.PieceRates.{wave_c}
use Rattle.face_paths.specs.Laws.{wave_refusal}
use Rattle.face_paths.proofs.piece_rates.wave_rate.Goals as goal

pub returns-in_err-u : goal.returns-in_err-u
returns-in_err-u c =
    let u = c.in_err-u.ensures in
    stops _ _ _ c.from_residual.ensures (wave_refusal _ _ _ _ _ ∙ (unfold wave_c in rw (met_is _ _ u) (simp told_rules)))

pub returns-in_err-v : goal.returns-in_err-v
returns-in_err-v c =
    let u = c.in_ok-u.ensures in
    let v = c.in_err-v.ensures in
    stops _ _ _ c.from_residual-in_err-v.ensures (wave_refusal _ _ _ _ _ ∙ (unfold wave_c in rw (none_met _ _ u, value_is _ _ u, met_is _ _ v) (simp told_rules)))

pub returns : goal.returns
returns c =
    let u = c.in_ok-u.ensures in
    let v = c.in_ok-v.ensures in
    gives _ _
    (wave_refusal _ _ _ _ _ ∙ (unfold wave_c in rw (none_met _ _ u, value_is _ _ u, none_met _ _ v) (simp told_rules)))
    (unfold wave_c in rw (value_is _ _ u, value_is _ _ v) refl)
