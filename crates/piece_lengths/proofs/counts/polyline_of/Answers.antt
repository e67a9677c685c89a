use mathlib.Core.Logic.{inl, inr}
use Rattle.checked.specs.ToldLaws.{gives}
use Rattle.piece_lengths.specs.Counts.{polyline_c}
use Rattle.piece_lengths.proofs.counts.polyline_of.Goals as goal

pub returns-in-Straight : goal.returns-in-Straight
unfolding polyline_c
returns-in-Straight c = elim c.in-Straight.is [ inl e ↦ gives _ _ (simp e) (simp e) | inr p ↦ gives _ _ (simp p.1) (simp p.1) ]

pub returns-in-Wave : goal.returns-in-Wave
unfolding polyline_c
returns-in-Wave c = simp c.in-Wave.is c.wave_line.ensures

pub returns-in-Meet : goal.returns-in-Meet
unfolding polyline_c
returns-in-Meet c = simp c.in-Meet.is c.meet_line.ensures
