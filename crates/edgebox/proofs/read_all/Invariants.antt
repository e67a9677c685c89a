-- `edgebox::read_all` meets its contract. The loop's invariant: the reading has taken what came in. Assumes nothing.
use mathlib.Core.Path.{◌≡◌}
use lib.ListN.{length}
use Rattle.edge_file.specs.Steps.{state}
use Rattle.edgebox.proofs.Files.{Standing}
use Rattle.edgebox.proofs.read_all.Given as goal

abbrev pub invariant-loop : goal.invariant-loop
invariant-loop g l = (length l.buf ≡ length l.initial.buf) × Standing (state l.reading)
