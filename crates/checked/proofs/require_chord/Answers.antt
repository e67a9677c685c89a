use Rattle.checked.specs.Tests.{chord_test}
use Rattle.checked.proofs.require_chord.Goals as goal

pub returns : goal.returns
unfolding chord_test
returns c = simp c.require.ensures
