use Rattle.checked.specs.Tests.{fails}
use Rattle.checked.proofs.require.Goals as goal

pub returns-then-holds : goal.returns-then-holds
unfolding fails
returns-then-holds c = simp c.if-holds.true

pub returns-else-holds : goal.returns-else-holds
unfolding fails
returns-else-holds c = simp c.if-holds.false
