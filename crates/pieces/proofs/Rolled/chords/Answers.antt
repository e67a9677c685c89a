use Rattle.pieces.specs.Entries.{chords_due}
use Rattle.checked.specs.ToldLaws.{fails_by, passes, stops, none_met, value_is, met_is, rules as told_rules}
use Rattle.pieces.proofs.Rolled.chords.Goals as goal

pub returns-in_err-require : goal.returns-in_err-require
unfolding chords_due
returns-in_err-require c = fails_by _ _ _ _ c.from_residual.ensures (simp (← c.in_err-require.ensures, ← c.is_within-2.ensures, ← c.is_within.ensures, told_rules))

pub returns-in_err-tried : goal.returns-in_err-tried
unfolding chords_due
returns-in_err-tried c = fails_by _ _ _ _ c.from_residual-in_err-tried.ensures (simp (← c.in_err-tried.ensures, ← c.in_ok-require.ensures, ← c.is_within-2.ensures, ← c.is_within.ensures, told_rules))

pub returns-in_err-require_chord : goal.returns-in_err-require_chord
unfolding chords_due
returns-in_err-require_chord c = fails_by _ _ _ _ c.from_residual-in_err-require_chord.ensures (simp (← c.in_err-require_chord.ensures, ← c.in_ok-tried.ensures, ← c.in_ok-require.ensures, ← c.is_within-2.ensures, ← c.is_within.ensures, told_rules))

pub returns-in_err-run : goal.returns-in_err-run
unfolding chords_due
returns-in_err-run c = passes _ _ _ (simp (← c.in_ok-require_chord.ensures, ← c.in_ok-tried.ensures, ← c.in_ok-require.ensures, ← c.is_within-2.ensures, ← c.is_within.ensures, told_rules)) (stops _ _ _ c.from_residual-in_err-run.ensures (simp (met_is _ _ c.in_err-run.ensures, told_rules)))

pub returns : goal.returns
unfolding chords_due
returns c =
    let r = c.in_ok-run.ensures in
    passes _ _ _ (simp (← c.in_ok-require_chord.ensures, ← c.in_ok-tried.ensures, ← c.in_ok-require.ensures, ← c.is_within-2.ensures, ← c.is_within.ensures, told_rules)) (simp (c.chords_of.ensures, none_met _ _ r, value_is _ _ r, told_rules))
