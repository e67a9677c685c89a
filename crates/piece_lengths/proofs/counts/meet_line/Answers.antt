use mathlib.Core.Path.{refl}
use Rattle.checked.specs.ToldLaws.{stops, follows, none_met, value_is, met_is, rules as told_rules}
use Rattle.piece_lengths.specs.Counts.{meet_line_c}
use Rattle.piece_lengths.specs.CountsLaws.{meet_line_refusal}
use Rattle.piece_lengths.proofs.counts.meet_line.Goals as goal

pub returns-in_err-bend : goal.returns-in_err-bend
returns-in_err-bend c =
    let bend = c.in_err-bend.ensures in
    stops _ _ _ c.from_residual.ensures (simp (meet_line_refusal, met_is _ _ bend, told_rules))

pub returns-in_err-off : goal.returns-in_err-off
returns-in_err-off c =
    let bend = c.in_ok-bend.ensures in
    let off = c.in_err-off.ensures in
    stops _ _ _ c.from_residual-in_err-off.ensures (simp (meet_line_refusal, none_met _ _ bend, met_is _ _ off, told_rules))

pub returns-in_err-q : goal.returns-in_err-q
returns-in_err-q c =
    let bend = c.in_ok-bend.ensures in
    let off = c.in_ok-off.ensures in
    let q = simp (c.sqrt.ensures, ← value_is _ _ bend, ← value_is _ _ off) at c.in_err-q.ensures in
    stops _ _ _ c.from_residual-in_err-q.ensures (simp (meet_line_refusal, none_met _ _ bend, none_met _ _ off, met_is _ _ q, told_rules))

pub returns : goal.returns
returns c =
    let bend = c.in_ok-bend.ensures in
    let off = c.in_ok-off.ensures in
    let q = simp (c.sqrt.ensures, ← value_is _ _ bend, ← value_is _ _ off) at c.in_ok-q.ensures in
    let last = simp (← value_is _ _ q) at c.count.ensures in
    follows _ _ _ _ last (simp (meet_line_refusal, none_met _ _ bend, none_met _ _ off, none_met _ _ q, told_rules)) (unfold meet_line_c in refl)
