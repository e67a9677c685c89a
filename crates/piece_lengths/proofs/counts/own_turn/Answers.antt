use mathlib.Core.Logic.{inl, inr}
use Rattle.checked.specs.ToldLaws.{gives}
use Rattle.piece_lengths.specs.Counts.{own_turn_c}
use Rattle.piece_lengths.proofs.counts.own_turn.Goals as goal

pub returns-in-Straight : goal.returns-in-Straight
unfolding own_turn_c
returns-in-Straight c = elim c.in-Straight.is [ inl e ↦ simp e c.per_turn.ensures | inr p ↦ simp p.1 c.per_turn.ensures ]

pub returns-in-Wave : goal.returns-in-Wave
unfolding own_turn_c
returns-in-Wave c = elim c.in-Wave.is [ inl p ↦ gives _ _ (simp p.1) (simp p.1) | inr p ↦ gives _ _ (simp p.1) (simp p.1) ]
