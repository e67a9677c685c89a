use native.Mathlib.Omega.{arith}
use Rattle.cones.specs.Frames.{least_axis}
use borrow.Author.Tests.{lt-ltb, le-ltb}
use Rattle.cones.proofs.formula.least_axis.Goals as goal

pub returns-then-r-q : goal.returns-then-r-q
unfolding least_axis
returns-then-r-q c = simp (lt-ltb _ _ c.if-r-q.true, lt-ltb c.size-q.result c.size-p.result (omega arith), ← c.size-r.ensures, ← c.size-q.ensures, ← c.size-p.ensures)

pub returns-else-r-q : goal.returns-else-r-q
unfolding least_axis
returns-else-r-q c = simp (le-ltb _ _ c.if-r-q.false, lt-ltb c.size-q.result c.size-p.result (omega arith), ← c.size-r.ensures, ← c.size-q.ensures, ← c.size-p.ensures)

pub returns-then-r-p : goal.returns-then-r-p
unfolding least_axis
returns-then-r-p c = simp (lt-ltb _ _ c.if-r-p.true, le-ltb c.size-q.result c.size-p.result (omega arith), ← c.size-r.ensures, ← c.size-q.ensures, ← c.size-p.ensures)

pub returns-else-r-p : goal.returns-else-r-p
unfolding least_axis
returns-else-r-p c = simp (le-ltb _ _ c.if-r-p.false, le-ltb c.size-q.result c.size-p.result (omega arith), ← c.size-r.ensures, ← c.size-q.ensures, ← c.size-p.ensures)
