use native.Mathlib.Omega.{arith}
use Rattle.checked.specs.PatternLaws.{yes}
use Rattle.float_bits.specs.Laws.{sign_most}
use Rattle.libm.specs.Atan2.{angle}
use borrow.Author.Tests.{eq-eqb, ne_eqb}
use mathlib.Core.Path.{sym, ◌∙◌}
use Rattle.libm.proofs.atan2.angle.Goals as goal

pub overflow_mul-m : goal.overflow_mul-m
overflow_mul-m c = omega (arith, c.sign.ensures, sign_most c.args.x (yes c.well_formed.1.0.1))

pub overflow_add-m : goal.overflow_add-m
overflow_add-m c = omega (arith, c.sign-2.ensures, c.sign.ensures, sign_most c.args.x (yes c.well_formed.1.0.1), sign_most c.args.y (yes c.well_formed.0.1))

pub in_quadrant-requires : goal.in_quadrant-requires
in_quadrant-requires c = omega (arith, c.sign-2.ensures, c.sign.ensures, sign_most c.args.x (yes c.well_formed.1.0.1), sign_most c.args.y (yes c.well_formed.0.1))

pub returns-then-is_one : goal.returns-then-is_one
unfolding angle
returns-then-is_one c = simp (c.atan.ensures, sym c.is_one.ensures ∙ c.if-is_one.true)

pub returns-then-size-eq0 : goal.returns-then-size-eq0
unfolding angle
returns-then-size-eq0 c = simp (c.choose.ensures, eq-eqb _ _ c.if-size-eq0.true, ← c.size.ensures, sym c.is_one.ensures ∙ c.if-is_one.false, ← c.sign-2.ensures, ← c.sign.ensures, ← c.high_word-iy.ensures, ← c.high_word-ix.ensures)

pub returns-then-size-eq0-2 : goal.returns-then-size-eq0-2
unfolding angle
returns-then-size-eq0-2 c = simp (c.quarter_turn.ensures, eq-eqb _ _ c.if-size-eq0-2.true, ← c.size-else-size-eq0.ensures, ne_eqb _ _ c.if-size-eq0.false, ← c.size.ensures, sym c.is_one.ensures ∙ c.if-is_one.false, ← c.sign-2.ensures, ← c.sign.ensures, ← c.high_word-iy.ensures, ← c.high_word-ix.ensures)

pub returns-then-ix-eq2146435072 : goal.returns-then-ix-eq2146435072
unfolding angle
returns-then-ix-eq2146435072 c = simp (c.at_infinite_x.ensures, eq-eqb _ _ c.if-ix-eq2146435072.true, ne_eqb _ _ c.if-size-eq0-2.false, ← c.size-else-size-eq0.ensures, ne_eqb _ _ c.if-size-eq0.false, ← c.size.ensures, sym c.is_one.ensures ∙ c.if-is_one.false, ← c.sign-2.ensures, ← c.sign.ensures, ← c.high_word-iy.ensures, ← c.high_word-ix.ensures)

pub returns-then-ix-iy : goal.returns-then-ix-iy
unfolding angle
returns-then-ix-iy c = simp (c.quarter_turn-then-ix-iy.ensures, c.if-ix-iy.true, ne_eqb _ _ c.if-ix-eq2146435072.false, ne_eqb _ _ c.if-size-eq0-2.false, ← c.size-else-size-eq0.ensures, ne_eqb _ _ c.if-size-eq0.false, ← c.size.ensures, sym c.is_one.ensures ∙ c.if-is_one.false, ← c.sign-2.ensures, ← c.sign.ensures, ← c.high_word-iy.ensures, ← c.high_word-ix.ensures)

pub returns-else-ix-iy : goal.returns-else-ix-iy
unfolding angle
returns-else-ix-iy c = simp (c.in_quadrant.ensures, c.ratio_angle.ensures, c.if-ix-iy.false, ne_eqb _ _ c.if-ix-eq2146435072.false, ne_eqb _ _ c.if-size-eq0-2.false, ← c.size-else-size-eq0.ensures, ne_eqb _ _ c.if-size-eq0.false, ← c.size.ensures, sym c.is_one.ensures ∙ c.if-is_one.false, ← c.sign-2.ensures, ← c.sign.ensures, ← c.high_word-iy.ensures, ← c.high_word-ix.ensures)
