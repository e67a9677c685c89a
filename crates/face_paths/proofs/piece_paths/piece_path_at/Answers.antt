use mathlib.Core.Path.{refl, ◌∙◌}
use Rattle.checked.specs.ToldLaws.{none_met, value_is, met_is, gives, stops, rules as told_rules}
use Rattle.face_paths.specs.PiecePaths.{piece_path_at}
use Rattle.face_paths.specs.Laws.{piece_at_refusal}
use Rattle.face_paths.proofs.piece_paths.piece_path_at.Goals as goal

pub returns-in_err-g : goal.returns-in_err-g
returns-in_err-g c =
    let g = c.in_err-g.ensures in
    stops _ _ _ c.from_residual.ensures (piece_at_refusal _ _ ∙ (unfold piece_path_at in rw (met_is _ _ g) (simp told_rules)))

pub returns-in_err-theta : goal.returns-in_err-theta
returns-in_err-theta c =
    let g = c.in_ok-g.ensures in
    let theta = c.in_err-theta.ensures in
    stops _ _ _ c.from_residual-in_err-theta.ensures (piece_at_refusal _ _ ∙ (unfold piece_path_at in rw (none_met _ _ g, value_is _ _ g, met_is _ _ theta) (simp told_rules)))

pub returns-in_err-z : goal.returns-in_err-z
returns-in_err-z c =
    let g = c.in_ok-g.ensures in
    let theta = c.in_ok-theta.ensures in
    let z = c.in_err-z.ensures in
    stops _ _ _ c.from_residual-in_err-z.ensures (piece_at_refusal _ _ ∙ (unfold piece_path_at in rw (none_met _ _ g, value_is _ _ g, none_met _ _ theta, met_is _ _ z) (simp told_rules)))

pub returns-in_err-turn : goal.returns-in_err-turn
returns-in_err-turn c =
    let g = c.in_ok-g.ensures in
    let theta = c.in_ok-theta.ensures in
    let z = c.in_ok-z.ensures in
    let turn = c.in_err-turn.ensures in
    stops _ _ _ c.from_residual-in_err-turn.ensures (piece_at_refusal _ _ ∙ (unfold piece_path_at in rw (none_met _ _ g, value_is _ _ g, none_met _ _ theta, none_met _ _ z, met_is _ _ turn) (simp told_rules)))

pub returns : goal.returns
returns c =
    let g = c.in_ok-g.ensures in
    let theta = c.in_ok-theta.ensures in
    let z = c.in_ok-z.ensures in
    let turn = c.in_ok-turn.ensures in
    gives _ _
    (piece_at_refusal _ _ ∙ (unfold piece_path_at in rw (none_met _ _ g, value_is _ _ g, none_met _ _ theta, none_met _ _ z, none_met _ _ turn) (simp told_rules)))
    (unfold piece_path_at in rw (value_is _ _ g, value_is _ _ theta, value_is _ _ z, value_is _ _ turn) refl)
