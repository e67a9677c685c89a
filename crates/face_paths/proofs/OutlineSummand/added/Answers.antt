use mathlib.Core.Path.{refl}
use Rattle.checked.specs.ToldLaws.{none_met, value_is, met_is, follows, stops, rules as told_rules}
use Rattle.integrals.specs.Along.{node_at_c}
use Rattle.face_paths.proofs.OutlineSummand.added.Goals as goal

pub returns-in_err-p : goal.returns-in_err-p
returns-in_err-p c = stops _ _ _ c.from_residual.ensures (unfold node_at_c in rw (met_is _ _ c.in_err-p.ensures) (simp told_rules))

pub returns : goal.returns
returns c =
    let p = c.in_ok-p.ensures in
    follows _ _ _ _ c.node.ensures (unfold node_at_c in rw (none_met _ _ p, value_is _ _ p) (simp told_rules)) (unfold node_at_c in rw (value_is _ _ p) refl)
