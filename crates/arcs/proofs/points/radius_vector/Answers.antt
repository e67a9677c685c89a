use Rattle.std.specs.Prelude.{refl}
use Rattle.checked.specs.ToldLaws.{none_met, value_is, met_is, follows, stops, rules as told_rules}
use Rattle.arcs.specs.Points.{radius_vector_c}
use Rattle.arcs.specs.PointsLaws.{spoke_refusal}
use Rattle.arcs.proofs.points.radius_vector.Goals as goal

pub returns-in_err-l : goal.returns-in_err-l
returns-in_err-l c =
    let l = simp (c.length.ensures, c.across-a.ensures, c.minus.ensures) at c.in_err-l.ensures in
    stops _ _ _ c.from_residual.ensures (simp (spoke_refusal, met_is _ _ l, told_rules))

pub returns : goal.returns
returns c =
    let l = simp (c.length.ensures, c.across-a.ensures, c.minus.ensures) at c.in_ok-l.ensures in
    let d = simp (c.times.ensures, c.across-a.ensures, c.minus.ensures, ← value_is _ _ l) at c.finite3.ensures in
    follows _ _ _ _ d
    (simp (spoke_refusal, none_met _ _ l, told_rules) (unfold radius_vector_c in refl))
    (unfold radius_vector_c in refl)
