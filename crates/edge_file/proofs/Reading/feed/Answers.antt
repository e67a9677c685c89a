-- `edge_file::Reading::feed` meets its contract. The loop's invariant is `Taking`; the measure is
-- how many bytes are left. Assumes nothing.
use native.Mathlib.Omega.{arith}
use Rattle.edge_file.specs.Steps.{state}
use Rattle.edge_file.proofs.Turns.{taking_none, taking_more, taken}
use Rattle.edge_file.proofs.Reading.feed.Goals as goal

pub loop-size-init : goal.loop-size-init
loop-size-init c = taking_none (state c.args.self) c.args.bytes.now c.due-size.result c.due-size.ensures

pub loop-size-preserved : goal.loop-size-preserved
loop-size-preserved c =
    let s = c.step-reading in
    let l = c.loop-size in
    let a = c.args in
    taking_more (state a.self) (state l.reading) (state s.result) a.bytes.now l.used l.size c.due-size-in-loop-size.result l.invariant c.loop-size-test.true s.ensures c.due-size-in-loop-size.ensures

pub returns : goal.returns
returns c = let l = c.loop-size in taken (state c.args.self) (state l.reading) c.args.bytes.now l.used l.size l.invariant (omega arith)
