use mathlib.Core.Path.{◌∙◌, ap, sym}
use native.Mathlib.Omega.{arith}
use borrow.Author.Tests.{le-leb, lt-leb}
use Rattle.checked.specs.PatternLaws.{yes}
use Rattle.checked.specs.Checked.{due, refused}
use Rattle.checked.specs.ToldLaws.{exit_is}
use Rattle.decimals.specs.Thousandths.{signed}
use Rattle.decimals.proofs.Sizes.{few, many, printed, above_most, plus_is, minus_fits, minus_is}
use Rattle.decimals.proofs.thousandths.Goals as goal

pub returns-in_err-require : goal.returns-in_err-require
returns-in_err-require c =
    let over = above_most _ _ c.in_err-require.ensures in
    exit_is _ _ c.from_residual.ensures
    ∙ ap refused (sym over.1)
    ∙ many c.args.x (yes c.well_formed.0.1) c.bits-b.result c.size_of-size.result c.bits-b.ensures c.size_of-size.ensures over.0

pub overflow_cast-result : goal.overflow_cast-result
overflow_cast-result c = let h = printed _ c.in_ok-require.ensures in omega arith

pub overflow_sub-result : goal.overflow_sub-result
overflow_sub-result c = minus_fits _ (printed _ c.in_ok-require.ensures)

pub overflow_cast-result-else-b-ge9223372036854775808 : goal.overflow_cast-result-else-b-ge9223372036854775808
overflow_cast-result-else-b-ge9223372036854775808 c = let h = printed _ c.in_ok-require.ensures in omega arith

pub returns-then-b-ge9223372036854775808 : goal.returns-then-b-ge9223372036854775808
returns-then-b-ge9223372036854775808 c =
    let h = printed _ c.in_ok-require.ensures in
    let n = c.size_of-size.result in
    ap due (minus_is n h ∙ ap (λ s. signed s n) (sym (le-leb _ _ c.if-b-ge9223372036854775808.true)))
    ∙ few c.args.x (yes c.well_formed.0.1) c.bits-b.result n c.bits-b.ensures c.size_of-size.ensures h

pub returns-else-b-ge9223372036854775808 : goal.returns-else-b-ge9223372036854775808
unfolding signed
returns-else-b-ge9223372036854775808 c =
    let h = printed _ c.in_ok-require.ensures in
    let n = c.size_of-size.result in
    ap due (plus_is n h ∙ ap (λ s. signed s n) (sym (lt-leb _ _ c.if-b-ge9223372036854775808.false)))
    ∙ few c.args.x (yes c.well_formed.0.1) c.bits-b.result n c.bits-b.ensures c.size_of-size.ensures h
