-- `edgebox::read_all` meets its contract. The loop's invariant: the reading has taken what came in. Assumes nothing.
use mathlib.Core.Path.{refl, sym, ◌∙◌}
use borrow.Author.Rules.{rules}
use Rattle.edge_file.specs.Steps.{state}
use Rattle.edgebox.proofs.Files.{stands_begun, stands_more, stands_last, stands_over}
use Rattle.edgebox.proofs.read_all.Goals as goal

pub loop-init : goal.loop-init
loop-init g c = (refl, stands_begun (state c.begun-reading.result) c.begun-reading.ensures)

pub loop-preserved : goal.loop-preserved
loop-preserved g c =
    let l = c.loop in
    (search rules, stands_more (state l.reading) (state c.take-reading.result) _ l.invariant.1 c.take-reading.ensures (sym c.is_due.ensures ∙ c.if-not-is_due.false))

pub returns-after-loop : goal.returns-after-loop
returns-after-loop g c = stands_over (state c.loop.reading) c.loop.invariant.1

pub returns-then-not-is_due : goal.returns-then-not-is_due
returns-then-not-is_due g c =
    let l = c.loop in
    stands_last (state l.reading) (state c.take-reading.result) _ l.invariant.1 c.take-reading.ensures
