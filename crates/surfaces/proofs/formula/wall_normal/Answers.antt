use Rattle.surfaces.specs.Surfaces.{wall_c}
use Rattle.checked.specs.ToldLaws.{stops, none_met, value_is, met_is, rules as told_rules}
use Rattle.surfaces.proofs.formula.wall_normal.Goals as goal

pub returns-in_err-q : goal.returns-in_err-q
unfolding wall_c
returns-in_err-q c = stops _ _ _ c.from_residual.ensures (simp (met_is _ _ c.in_err-q.ensures, told_rules))

pub returns : goal.returns
unfolding wall_c
returns c =
    let q = c.in_ok-q.ensures in
    simp (c.normal.ensures, none_met _ _ q, value_is _ _ q, told_rules)
