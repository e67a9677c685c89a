-- `edge_file::Reading::feed` meets its contract. The loop's invariant is `Taking`; the measure is
-- how many bytes are left. Assumes nothing.
use Prim.Native.Nat.{◌-◌}
use lib.ListN.{length}
use Rattle.edge_file.specs.Steps.{state}
use Rattle.edge_file.proofs.Turns.{Taking}
use Rattle.edge_file.proofs.Reading.feed.Given as goal

abbrev pub invariant-loop-size : goal.invariant-loop-size
invariant-loop-size l = Taking (state l.initial.reading) l.bytes (state l.reading) l.used l.size

abbrev pub decreases-loop-size : goal.decreases-loop-size
decreases-loop-size l = length l.bytes - l.used
