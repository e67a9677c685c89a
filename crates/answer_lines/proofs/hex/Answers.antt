use Rattle.std.proofs.Common.{arith, refl}
use Rattle.answer_lines.specs.Lines.{spelt}
use Rattle.answer_lines.specs.Laws.{spelt_more, spelt_fits, digit_small}
use Rattle.answer_lines.proofs.hex.Goals as goal

pub loop-i-init : goal.loop-i-init
unfolding spelt
loop-i-init c = refl

pub overflow_mul-n : goal.overflow_mul-n
overflow_mul-n c = omega (arith, spelt_fits _ _ _ _ c.loop-i.invariant c.loop-i-test.true)

pub overflow_add-n : goal.overflow_add-n
overflow_add-n c = omega (arith, spelt_fits _ _ _ _ c.loop-i.invariant c.loop-i-test.true, digit_small _ _ c.digit.ensures)

pub loop-i-preserved : goal.loop-i-preserved
loop-i-preserved c = simp (c.digit.ensures, c.loop-i.invariant) (spelt_more _ _ _ _)
