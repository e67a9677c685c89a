use Rattle.edgebox.proofs.Files.{took}
use Rattle.edgebox.proofs.take.Goals as goal

pub returns : goal.returns
returns c = took _ _ _ _ c.feed.ensures
