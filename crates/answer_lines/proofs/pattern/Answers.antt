use native.Mathlib.Omega.{arith}
use Rattle.answer_lines.specs.Laws.{pattern_fits}
use Rattle.answer_lines.specs.Lines.{pattern}
use borrow.Author.Tests.{lt-ltb, le-ltb}
use Rattle.answer_lines.proofs.pattern.Goals as goal

pub overflow_mul-k : goal.overflow_mul-k
overflow_mul-k c = omega (arith, pattern_fits _ _ _ c.count.ensures c.if-k-count.true)

pub overflow_add-k : goal.overflow_add-k
overflow_add-k c = omega (arith, pattern_fits _ _ _ c.count.ensures c.if-k-count.true)

pub hex-requires : goal.hex-requires
hex-requires c = omega (arith, pattern_fits _ _ _ c.count.ensures c.if-k-count.true)

pub returns-then-k-count : goal.returns-then-k-count
unfolding pattern
returns-then-k-count c = simp (← c.hex.ensures, lt-ltb _ _ c.if-k-count.true, ← c.count.ensures)

pub returns-else-k-count : goal.returns-else-k-count
unfolding pattern
returns-else-k-count c = simp (le-ltb _ _ c.if-k-count.false, ← c.count.ensures)
