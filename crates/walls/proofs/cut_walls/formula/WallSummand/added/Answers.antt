use mathlib.Core.Path.{refl}
use Rattle.checked.specs.ToldLaws.{none_met, value_is, met_is, follows, stops, rules as told_rules}
use Rattle.walls.specs.CutWalls.{node_at_c}
use Rattle.walls.proofs.cut_walls.formula.WallSummand.added.Goals as goal

pub returns-in_err-q : goal.returns-in_err-q
returns-in_err-q c = stops _ _ _ c.from_residual.ensures (unfold node_at_c in rw (met_is _ _ c.in_err-q.ensures) (simp told_rules))

pub returns : goal.returns
returns c =
    let q = c.in_ok-q.ensures in
    follows _ _ _ _ c.node.ensures (unfold node_at_c in rw (none_met _ _ q, value_is _ _ q) (simp told_rules)) (unfold node_at_c in rw (value_is _ _ q) refl)
