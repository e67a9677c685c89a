use native.Mathlib.Omega.{arith}
use Rattle.answer_lines.specs.Laws.{spelt_two, digit_small}
use Rattle.answer_lines.proofs.pair.Goals as goal

pub overflow_mul-result : goal.overflow_mul-result
overflow_mul-result c = omega (arith, digit_small _ _ c.digit.ensures)

pub overflow_add-result : goal.overflow_add-result
overflow_add-result c = omega (arith, digit_small _ _ c.digit-2.ensures, digit_small _ _ c.digit.ensures)

pub returns : goal.returns
returns c = simp (c.digit-2.ensures, c.digit.ensures) (spelt_two _ _)
