use mathlib.Core.Path.{◌∙◌, ap}
use Rattle.checked.specs.Checked.{Checked, answered}
use Rattle.piece_lengths.specs.declared.measures.Measure.{Measure}
use Rattle.piece_lengths.specs.Measures.{measure_c}
use Rattle.piece_lengths.specs.MeasuresLaws.{wave_known, meet_known}
use Rattle.piece_lengths.proofs.measures.measure_of.Goals as goal

pub returns-in-Straight : goal.returns-in-Straight
unfolding measure_c
returns-in-Straight c = simp c.in-Straight.is c.segment.ensures

pub returns-in-Arc : goal.returns-in-Arc
unfolding measure_c
returns-in-Arc c = simp c.in-Arc.is c.arc_measure.ensures

pub returns-in-Wave : goal.returns-in-Wave
returns-in-Wave c = c.wave_measure.ensures ∙ ap (λ (q : Checked Measure). answered q) (wave_known c.args.r _ c.in-Wave.is)

pub returns-in-Meet : goal.returns-in-Meet
returns-in-Meet c = c.meet_measure.ensures ∙ ap (λ (q : Checked Measure). answered q) (meet_known c.args.r _ c.in-Meet.is)
