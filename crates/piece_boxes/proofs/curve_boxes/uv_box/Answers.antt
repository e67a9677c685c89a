use Rattle.checked.specs.ToldLaws.{gives}
use Rattle.piece_boxes.specs.CurveBoxes.{box_c}
use Rattle.piece_boxes.proofs.curve_boxes.uv_box.Goals as goal

pub returns-in-Straight : goal.returns-in-Straight
unfolding box_c
returns-in-Straight c = gives _ _ (simp c.in-Straight.is) (simp (c.in-Straight.is, c.ends.ensures))

pub returns-in-Arc : goal.returns-in-Arc
unfolding box_c
returns-in-Arc c = simp c.in-Arc.is c.arc_box.ensures

pub returns-in-Wave : goal.returns-in-Wave
unfolding box_c
returns-in-Wave c = simp c.in-Wave.is c.wave_box.ensures

pub returns-in-Meet : goal.returns-in-Meet
unfolding box_c
returns-in-Meet c = simp c.in-Meet.is c.meet_box.ensures
