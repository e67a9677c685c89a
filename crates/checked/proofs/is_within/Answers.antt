use borrow.Author.Rules.{rules}
use Rattle.checked.specs.Checked.{within}
use Rattle.checked.proofs.is_within.Goals as goal

pub returns : goal.returns
unfolding within
returns c = search rules
