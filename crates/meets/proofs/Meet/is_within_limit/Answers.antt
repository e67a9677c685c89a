use Rattle.meets.specs.Entries.{meet_within}
use Rattle.meets.proofs.Meet.is_within_limit.Goals as goal

pub returns : goal.returns
unfolding meet_within
returns c = simp (c.is_turn_within.ensures, c.is_within-2.ensures, c.is_within.ensures, c.is_within3-2.ensures, c.is_within3.ensures)
