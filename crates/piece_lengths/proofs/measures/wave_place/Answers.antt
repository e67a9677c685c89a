use mathlib.Core.Path.{refl}
use Rattle.checked.specs.ToldLaws.{stops, follows, none_met, value_is, met_is, rules as told_rules}
use Rattle.piece_curves.specs.Points.{at_c}
use Rattle.piece_lengths.specs.Measures.{place_c}
use Rattle.piece_lengths.proofs.measures.wave_place.Goals as goal

pub returns-in_err-t : goal.returns-in_err-t
unfolding place_c at_c
returns-in_err-t c = stops _ _ _ c.from_residual.ensures (simp (met_is _ _ c.in_err-t.ensures, told_rules))

pub returns : goal.returns
unfolding place_c at_c
returns c =
    let t = c.in_ok-t.ensures in
    let w = simp (← value_is _ _ t) at c.wave_at.ensures in
    follows _ _ _ _ w (simp (none_met _ _ t, told_rules)) refl
