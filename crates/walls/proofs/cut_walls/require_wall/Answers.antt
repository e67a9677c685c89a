use Rattle.checked.specs.ToldLaws.{exit_is, rules as told_rules}
use Rattle.walls.specs.Laws.{wall_tests_are}
use Rattle.walls.proofs.cut_walls.require_wall.Goals as goal

pub returns-in_err-require : goal.returns-in_err-require
returns-in_err-require c = simp (wall_tests_are, exit_is _ _ c.from_residual.ensures, ← c.in_err-require.ensures, ← c.is_within3.ensures, ← c.is_within2.ensures, told_rules)

pub returns-in_err-tried : goal.returns-in_err-tried
returns-in_err-tried c = simp (wall_tests_are, exit_is _ _ c.from_residual-in_err-tried.ensures, ← c.in_err-tried.ensures, ← c.in_ok-require.ensures, ← c.is_within3.ensures, ← c.is_within2.ensures, told_rules)

pub returns : goal.returns
returns c = simp (wall_tests_are, c.require-2.ensures, c.is_finite.ensures, ← c.in_ok-tried.ensures, ← c.in_ok-require.ensures, ← c.is_within3.ensures, ← c.is_within2.ensures, told_rules)
