use Rattle.checked.specs.Tests.{neutral_test}
use Rattle.checked.proofs.require_neutral.Goals as goal

pub returns : goal.returns
unfolding neutral_test
returns c = simp c.require.ensures
