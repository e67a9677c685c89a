use Rattle.segments.specs.Entries.{segment_within}
use Rattle.segments.proofs.are_within.Goals as goal

pub returns : goal.returns
unfolding segment_within
returns c = simp (c.is_within3-5.ensures, c.is_within3-4.ensures, c.is_within3-3.ensures, c.is_within3-2.ensures, c.is_within3.ensures, c.circle_within.ensures)
