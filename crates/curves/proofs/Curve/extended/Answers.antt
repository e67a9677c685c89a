use Rattle.curves.specs.Entries.{handed, extend_due}
use Rattle.curves.specs.Laws.{points_arc, points_piece}
use Rattle.checked.specs.ToldLaws.{fails_by, passes, rules as told_rules}
use mathlib.Core.Path.{sym, ◌∙◌}
use Rattle.boxes.proofs.Laws.{call_is}
use Rattle.curves.proofs.Curve.extended.Goals as goal

pub returns-in_err-require : goal.returns-in_err-require
unfolding extend_due handed
returns-in_err-require c = fails_by _ _ _ _ c.from_residual.ensures (simp (← c.in_err-require.ensures, ← c.is_within3-2.ensures, ← c.is_within3.ensures, told_rules)) ∙ sym (call_is _ _ _)

pub returns-in_err-tried : goal.returns-in_err-tried
unfolding extend_due handed
returns-in_err-tried c = fails_by _ _ _ _ c.from_residual-in_err-tried.ensures (simp (← c.in_err-tried.ensures, ← c.in_ok-require.ensures, ← c.is_within3-2.ensures, ← c.is_within3.ensures, told_rules)) ∙ sym (call_is _ _ _)

pub returns-in_err-require-2 : goal.returns-in_err-require-2
unfolding extend_due handed
returns-in_err-require-2 c = fails_by _ _ _ _ c.from_residual-in_err-require-2.ensures (simp (← c.in_err-require-2.ensures, ← c.is_free.ensures, ← c.in_ok-tried.ensures, ← c.in_ok-require.ensures, ← c.is_within3-2.ensures, ← c.is_within3.ensures, told_rules)) ∙ sym (call_is _ _ _)

pub returns-in-Arc : goal.returns-in-Arc
unfolding extend_due handed
returns-in-Arc c = passes _ _ _ (simp (← c.in_ok-require-2.ensures, ← c.is_free.ensures, ← c.in_ok-tried.ensures, ← c.in_ok-require.ensures, ← c.is_within3-2.ensures, ← c.is_within3.ensures, told_rules)) (simp (c.extended.ensures, points_arc c.in-Arc.is)) ∙ sym (call_is _ _ _)

pub returns-in-Rolled : goal.returns-in-Rolled
unfolding extend_due handed
returns-in-Rolled c = passes _ _ _ (simp (← c.in_ok-require-2.ensures, ← c.is_free.ensures, ← c.in_ok-tried.ensures, ← c.in_ok-require.ensures, ← c.is_within3-2.ensures, ← c.is_within3.ensures, told_rules)) (simp (c.with_piece.ensures, points_piece c.in-Rolled.is)) ∙ sym (call_is _ _ _)
