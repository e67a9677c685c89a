use mathlib.Core.Path.{refl}
use Rattle.checked.specs.ToldLaws.{none_met, value_is, met_is, gives, stops, rules as told_rules}
use Rattle.face_paths.specs.ArcPaths.{arc_path_c}
use Rattle.face_paths.specs.Paths.{face_path_at, with_arc_c}
use Rattle.face_paths.proofs.with_arc.Goals as goal

pub returns-in_err-surface : goal.returns-in_err-surface
unfolding with_arc_c arc_path_c face_path_at
returns-in_err-surface c = stops _ _ _ c.from_residual.ensures (rw (met_is _ _ c.in_err-surface.ensures) (simp told_rules))

pub returns-in_err-d : goal.returns-in_err-d
unfolding with_arc_c arc_path_c face_path_at
returns-in_err-d c = stops _ _ _ c.from_residual-in_err-d.ensures (rw (none_met _ _ c.in_ok-surface.ensures, value_is _ _ c.in_ok-surface.ensures, met_is _ _ c.in_err-d.ensures) (simp told_rules))

pub returns-in_err-after : goal.returns-in_err-after
unfolding with_arc_c arc_path_c face_path_at
returns-in_err-after c = stops _ _ _ c.from_residual-in_err-after.ensures (rw (none_met _ _ c.in_ok-surface.ensures, value_is _ _ c.in_ok-surface.ensures, none_met _ _ c.in_ok-d.ensures, value_is _ _ c.in_ok-d.ensures, met_is _ _ c.in_err-after.ensures) (simp told_rules))

pub returns : goal.returns
unfolding with_arc_c arc_path_c face_path_at
returns c = gives _ _ (rw (none_met _ _ c.in_ok-surface.ensures, value_is _ _ c.in_ok-surface.ensures, none_met _ _ c.in_ok-d.ensures, value_is _ _ c.in_ok-d.ensures, none_met _ _ c.in_ok-after.ensures) (simp told_rules)) (rw (value_is _ _ c.in_ok-surface.ensures, value_is _ _ c.in_ok-d.ensures, value_is _ _ c.in_ok-after.ensures) refl)
