use Rattle.libm.specs.Atan2.{atan2}
use mathlib.Core.Path.{sym, ◌∙◌}
use Rattle.libm.proofs.atan2.atan2.Goals as goal

pub returns-then-is_nan : goal.returns-then-is_nan
unfolding atan2
returns-then-is_nan c = simp (sym c.is_nan.ensures ∙ c.if-is_nan.true)

pub returns-then-is_nan-2 : goal.returns-then-is_nan-2
unfolding atan2
returns-then-is_nan-2 c = simp (sym c.is_nan-else-is_nan.ensures ∙ c.if-is_nan-2.true, sym c.is_nan.ensures ∙ c.if-is_nan.false)

pub returns-else-is_nan-2 : goal.returns-else-is_nan-2
unfolding atan2
returns-else-is_nan-2 c = simp (c.angle.ensures, sym c.is_nan-else-is_nan.ensures ∙ c.if-is_nan-2.false, sym c.is_nan.ensures ∙ c.if-is_nan.false)
