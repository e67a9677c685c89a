use Rattle.libm.specs.Roots.{hypot}
use Rattle.libm.proofs.roots.hypot.Goals as goal

pub returns : goal.returns
unfolding hypot
returns c = simp (c.hypot_ordered.ensures, ← c.lesser.ensures, ← c.greater.ensures, ← c.size-q.ensures, ← c.size-p.ensures)
