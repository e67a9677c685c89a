use mathlib.Core.Path.{refl}
use Rattle.checked.specs.ToldLaws.{none_met, value_is, met_is, gives, stops, rules as told_rules}
use Rattle.walls.specs.CutWalls.{wall_c}
use Rattle.walls.proofs.cut_walls.formula.over.Goals as goal

pub returns-in_err-run : goal.returns-in_err-run
unfolding wall_c
returns-in_err-run c = stops _ _ _ c.from_residual.ensures (rw (met_is _ _ c.in_err-run.ensures) (simp told_rules))

pub returns-in_err-n : goal.returns-in_err-n
unfolding wall_c
returns-in_err-n c = stops _ _ _ c.from_residual-in_err-n.ensures (rw (none_met _ _ c.in_ok-run.ensures, value_is _ _ c.in_ok-run.ensures, met_is _ _ c.in_err-n.ensures) (simp told_rules))

pub returns-in_err-strip : goal.returns-in_err-strip
unfolding wall_c
returns-in_err-strip c = stops _ _ _ c.from_residual-in_err-strip.ensures (rw (none_met _ _ c.in_ok-run.ensures, value_is _ _ c.in_ok-run.ensures, none_met _ _ c.in_ok-n.ensures, value_is _ _ c.in_ok-n.ensures, met_is _ _ c.in_err-strip.ensures) (simp told_rules))

pub returns-in_err-surface : goal.returns-in_err-surface
unfolding wall_c
returns-in_err-surface c = stops _ _ _ c.from_residual-in_err-surface.ensures (rw (none_met _ _ c.in_ok-run.ensures, value_is _ _ c.in_ok-run.ensures, none_met _ _ c.in_ok-n.ensures, value_is _ _ c.in_ok-n.ensures, none_met _ _ c.in_ok-strip.ensures, value_is _ _ c.in_ok-strip.ensures, met_is _ _ c.in_err-surface.ensures) (simp told_rules))

pub returns : goal.returns
unfolding wall_c
returns c = gives _ _ (rw (none_met _ _ c.in_ok-run.ensures, value_is _ _ c.in_ok-run.ensures, none_met _ _ c.in_ok-n.ensures, value_is _ _ c.in_ok-n.ensures, none_met _ _ c.in_ok-strip.ensures, value_is _ _ c.in_ok-strip.ensures, none_met _ _ c.in_ok-surface.ensures) (simp told_rules)) (rw (value_is _ _ c.in_ok-run.ensures, value_is _ _ c.in_ok-n.ensures, value_is _ _ c.in_ok-strip.ensures, value_is _ _ c.in_ok-surface.ensures) refl)
