use Rattle.libm.specs.Atan2.{ratio_angle}
use Rattle.libm.proofs.atan2.ratio_angle.Goals as goal

pub returns-then-sign-high_word : goal.returns-then-sign-high_word
unfolding ratio_angle
returns-then-sign-high_word c = simp (c.if-sign-high_word.true, ← c.high_word-2.ensures, ← c.high_word.ensures, ← c.sign.ensures)

pub returns-else-sign-high_word : goal.returns-else-sign-high_word
unfolding ratio_angle
returns-else-sign-high_word c = simp (c.atan_size.ensures, c.if-sign-high_word.false, ← c.high_word-2.ensures, ← c.high_word.ensures, ← c.sign.ensures)
