use Rattle.checked.specs.ToldLaws.{exit_is, rules as told_rules}
use Rattle.revolutions.specs.Revolutions.{lies_on}
use Rattle.revolutions.specs.Laws.{piece_tests_are}
use Rattle.revolutions.proofs.require_piece.Goals as goal

pub returns-in_err-require : goal.returns-in_err-require
returns-in_err-require c = simp (piece_tests_are, exit_is _ _ c.from_residual.ensures, ← c.in_err-require.ensures, ← c.face_within.ensures, told_rules)

pub returns-in_err-tried : goal.returns-in_err-tried
returns-in_err-tried c = simp (piece_tests_are, exit_is _ _ c.from_residual-in_err-tried.ensures, ← c.in_err-tried.ensures, ← c.in_ok-require.ensures, ← c.face_within.ensures, told_rules)

pub returns-in_err-require-2 : goal.returns-in_err-require-2
returns-in_err-require-2 c = simp (piece_tests_are, exit_is _ _ c.from_residual-in_err-require-2.ensures, ← c.in_err-require-2.ensures, ← c.is_finite.ensures, ← c.in_ok-tried.ensures, ← c.in_ok-require.ensures, ← c.face_within.ensures, told_rules)

pub returns : goal.returns
unfolding lies_on
returns c = simp (piece_tests_are, c.require-3.ensures, ← c.in_ok-require-2.ensures, ← c.is_finite.ensures, ← c.in_ok-tried.ensures, ← c.in_ok-require.ensures, ← c.face_within.ensures, told_rules)
