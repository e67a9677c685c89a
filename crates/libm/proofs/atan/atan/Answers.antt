use Rattle.libm.specs.AtanLaws.{atan_nan}
use Rattle.libm.specs.Atan.{atan}
use borrow.Author.Tests.{lt-ltb, le-ltb, le-leb, lt-leb}
use mathlib.Core.Path.{sym, ◌∙◌}
use Rattle.libm.proofs.atan.atan.Goals as goal

pub returns-then-is_nan : goal.returns-then-is_nan
returns-then-is_nan c = atan_nan _ (sym c.is_nan.ensures ∙ c.if-is_nan.true)

pub returns-then-ix-ge1141899264 : goal.returns-then-ix-ge1141899264
unfolding atan
returns-then-ix-ge1141899264 c = simp (c.signed.ensures, ← c.sign.ensures, le-leb _ _ c.if-ix-ge1141899264.true, ← c.high_word-ix.ensures, sym c.is_nan.ensures ∙ c.if-is_nan.false)

pub returns-then-ix-lt1071382528 : goal.returns-then-ix-lt1071382528
unfolding atan
returns-then-ix-lt1071382528 c = simp (c.atan_small.ensures, lt-ltb _ _ c.if-ix-lt1071382528.true, lt-leb _ _ c.if-ix-ge1141899264.false, ← c.high_word-ix.ensures, sym c.is_nan.ensures ∙ c.if-is_nan.false)

pub returns-else-ix-lt1071382528 : goal.returns-else-ix-lt1071382528
unfolding atan
returns-else-ix-lt1071382528 c = simp (c.signed-else-ix-lt1071382528.ensures, c.folded.ensures, c.reduction.ensures, c.fabs_number.ensures, ← c.sign-else-ix-lt1071382528.ensures, le-ltb _ _ c.if-ix-lt1071382528.false, lt-leb _ _ c.if-ix-ge1141899264.false, ← c.high_word-ix.ensures, sym c.is_nan.ensures ∙ c.if-is_nan.false)
