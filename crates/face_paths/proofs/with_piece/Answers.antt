use mathlib.Core.Path.{refl}
use Rattle.checked.specs.ToldLaws.{none_met, value_is, met_is, gives, stops, rules as told_rules}
use Rattle.pieces.specs.Pieces.{run_c}
use Rattle.face_paths.specs.Paths.{face_path_at, piece_path_c, with_piece_c}
use Rattle.face_paths.proofs.with_piece.Goals as goal

pub returns-in_err-surface : goal.returns-in_err-surface
unfolding with_piece_c piece_path_c face_path_at
returns-in_err-surface c = stops _ _ _ c.from_residual.ensures (rw (met_is _ _ c.in_err-surface.ensures) (simp told_rules))

pub returns-in_err-d : goal.returns-in_err-d
unfolding with_piece_c piece_path_c face_path_at
returns-in_err-d c = stops _ _ _ c.from_residual-in_err-d.ensures (rw (none_met _ _ c.in_ok-surface.ensures, value_is _ _ c.in_ok-surface.ensures, met_is _ _ (c.in_err-d.ensures (run_c _) c.run.ensures)) (simp told_rules))

pub returns-in_err-n : goal.returns-in_err-n
unfolding with_piece_c piece_path_c face_path_at
returns-in_err-n c = stops _ _ _ c.from_residual-in_err-n.ensures (rw (none_met _ _ c.in_ok-surface.ensures, value_is _ _ c.in_ok-surface.ensures, none_met _ _ (c.in_ok-d.ensures (run_c _) c.run.ensures), value_is _ _ (c.in_ok-d.ensures (run_c _) c.run.ensures), met_is _ _ c.in_err-n.ensures) (simp told_rules))

pub returns-in_err-after : goal.returns-in_err-after
unfolding with_piece_c piece_path_c face_path_at
returns-in_err-after c = stops _ _ _ c.from_residual-in_err-after.ensures (rw (none_met _ _ c.in_ok-surface.ensures, value_is _ _ c.in_ok-surface.ensures, none_met _ _ (c.in_ok-d.ensures (run_c _) c.run.ensures), value_is _ _ (c.in_ok-d.ensures (run_c _) c.run.ensures), none_met _ _ c.in_ok-n.ensures, value_is _ _ c.in_ok-n.ensures, met_is _ _ c.in_err-after.ensures) (simp told_rules))

pub returns : goal.returns
unfolding with_piece_c piece_path_c face_path_at
returns c = gives _ _ (rw (none_met _ _ c.in_ok-surface.ensures, value_is _ _ c.in_ok-surface.ensures, none_met _ _ (c.in_ok-d.ensures (run_c _) c.run.ensures), value_is _ _ (c.in_ok-d.ensures (run_c _) c.run.ensures), none_met _ _ c.in_ok-n.ensures, value_is _ _ c.in_ok-n.ensures, none_met _ _ c.in_ok-after.ensures) (simp told_rules)) (rw (value_is _ _ c.in_ok-surface.ensures, value_is _ _ (c.in_ok-d.ensures (run_c _) c.run.ensures), value_is _ _ c.in_ok-n.ensures, value_is _ _ c.in_ok-after.ensures) refl)
