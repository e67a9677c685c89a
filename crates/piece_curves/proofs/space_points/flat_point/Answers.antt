use Rattle.piece_curves.specs.Points as pieces
use Rattle.piece_curves.specs.SpacePoints.{straight_c, flat_c}
use Rattle.checked.specs.ToldLaws.{stops, gives, none_met, value_is, met_is}
use mathlib.Core.Path.{ap}
use Rattle.piece_curves.proofs.space_points.flat_point.Goals as goal

pub returns-in_err-straight_at-in-Straight : goal.returns-in_err-straight_at-in-Straight
unfolding flat_c
returns-in_err-straight_at-in-Straight c =
    simp c.in-Straight.is (stops _ _ _ c.from_residual.ensures (unfold straight_c pieces.straight_c in met_is _ _ c.in_err-straight_at-in-Straight.ensures))

pub returns-in_ok-straight_at-in-Straight : goal.returns-in_ok-straight_at-in-Straight
unfolding flat_c
returns-in_ok-straight_at-in-Straight c =
    simp c.in-Straight.is
    (gives _ _
    (unfold straight_c pieces.straight_c in none_met _ _ c.in_ok-straight_at-in-Straight.ensures)
    (unfold straight_c pieces.straight_c in ap (λ x. x.p) (value_is _ _ c.in_ok-straight_at-in-Straight.ensures)))

pub returns-in-Arc : goal.returns-in-Arc
unfolding flat_c
returns-in-Arc c = simp (c.arc_point.ensures, c.in-Arc.is)

pub returns-in-Wave : goal.returns-in-Wave
unfolding flat_c
returns-in-Wave c = simp (c.wave_point.ensures, c.in-Wave.is)

pub returns-in-Meet : goal.returns-in-Meet
unfolding flat_c
returns-in-Meet c = simp (c.point.ensures, c.in-Meet.is)
