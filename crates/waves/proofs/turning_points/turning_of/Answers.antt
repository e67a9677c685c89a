use Rattle.waves.specs.TurningPoints.{turning_c}
use Rattle.checked.specs.ToldLaws.{stops, gives, none_met, value_is, met_is, rules as told_rules}
use Rattle.waves.specs.TurningPointsLaws.{turning_refusal}
use Rattle.waves.proofs.turning_points.turning_of.Goals as goal

pub returns-in_err-first : goal.returns-in_err-first
returns-in_err-first c =
    let f = simp c.atan2.ensures at c.in_err-first.ensures in
    stops _ _ _ c.from_residual.ensures (simp turning_refusal (unfold turning_c in simp (met_is _ _ f, told_rules)))

pub returns-in_err-half : goal.returns-in_err-half
returns-in_err-half c =
    let f = simp c.atan2.ensures at c.in_ok-first.ensures in
    stops _ _ _ c.from_residual-in_err-half.ensures (simp turning_refusal (unfold turning_c in simp (none_met _ _ f, met_is _ _ c.in_err-half.ensures, told_rules)))

pub returns : goal.returns
returns c =
    let f = simp c.atan2.ensures at c.in_ok-first.ensures in
    let h = c.in_ok-half.ensures in
    gives _ _
    (simp turning_refusal (unfold turning_c in simp (none_met _ _ f, none_met _ _ h, told_rules)))
    (unfold turning_c in simp (value_is _ _ f, value_is _ _ h))
