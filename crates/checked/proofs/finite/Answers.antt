use Rattle.checked.specs.Checked.{nine, settled}
use Rattle.checked.proofs.finite.Goals as goal

pub returns-then-is_finite : goal.returns-then-is_finite
unfolding nine settled
returns-then-is_finite c = simp (← c.is_finite.ensures, c.if-is_finite.true)

pub returns-else-is_finite : goal.returns-else-is_finite
unfolding nine settled
returns-else-is_finite c = simp (← c.is_finite.ensures, c.if-is_finite.false)
