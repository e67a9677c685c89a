use Rattle.float_bits.specs.Laws.{nan_high}
use Rattle.libm.specs.Roots.{acos}
use borrow.Author.Tests.{lt-ltb, le-ltb, le-leb, lt-leb, eq-eqb, ne_eqb}
use mathlib.Core.Path.{sym, ◌∙◌}
use Rattle.libm.proofs.roots.acos.Goals as goal

pub returns-then-is_nan : goal.returns-then-is_nan
unfolding acos
returns-then-is_nan c = simp (c.acos_far.ensures, nan_high _ (sym c.is_nan.ensures ∙ c.if-is_nan.true))

pub returns-then-ix-ge1072693248 : goal.returns-then-ix-ge1072693248
unfolding acos
returns-then-ix-ge1072693248 c = simp (c.acos_far-then-ix-ge1072693248.ensures, le-leb _ _ c.if-ix-ge1072693248.true, ← c.high_word-ix.ensures)

pub returns-then-ix-lt1071644672 : goal.returns-then-ix-lt1071644672
unfolding acos
returns-then-ix-lt1071644672 c = simp (c.acos_near.ensures, lt-ltb _ _ c.if-ix-lt1071644672.true, lt-leb _ _ c.if-ix-ge1072693248.false, ← c.high_word-ix.ensures)

pub returns-then-sign-eq0 : goal.returns-then-sign-eq0
unfolding acos
returns-then-sign-eq0 c = simp (c.acos_above.ensures, eq-eqb _ _ c.if-sign-eq0.true, ← c.sign.ensures, le-ltb _ _ c.if-ix-lt1071644672.false, lt-leb _ _ c.if-ix-ge1072693248.false, ← c.high_word-ix.ensures)

pub returns-else-sign-eq0 : goal.returns-else-sign-eq0
unfolding acos
returns-else-sign-eq0 c = simp (c.acos_below.ensures, ne_eqb _ _ c.if-sign-eq0.false, ← c.sign.ensures, le-ltb _ _ c.if-ix-lt1071644672.false, lt-leb _ _ c.if-ix-ge1072693248.false, ← c.high_word-ix.ensures)
