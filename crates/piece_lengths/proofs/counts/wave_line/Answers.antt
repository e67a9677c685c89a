use mathlib.Core.Path.{refl}
use Rattle.checked.specs.Laws.{opened}
use Rattle.checked.specs.ToldLaws.{stops, follows, none_met, value_is, met_is, rules as told_rules}
use Rattle.piece_lengths.specs.CountsLaws.{rules as run_counts_rules}
use Rattle.piece_lengths.specs.Counts.{wave_line_c}
use Rattle.piece_lengths.proofs.counts.wave_line.Goals as goal

pub returns-in_err-du : goal.returns-in_err-du
unfolding wave_line_c
returns-in_err-du c =
    let du = c.in_err-du.ensures in
    stops _ _ _ c.from_residual.ensures (simp (opened, run_counts_rules, met_is _ _ du, told_rules))

pub returns-in_err-amp : goal.returns-in_err-amp
unfolding wave_line_c
returns-in_err-amp c =
    let du = c.in_ok-du.ensures in
    let amp = simp c.hypot.ensures at c.in_err-amp.ensures in
    stops _ _ _ c.from_residual-in_err-amp.ensures (simp (opened, run_counts_rules, none_met _ _ du, met_is _ _ amp, told_rules))

pub returns-in_err-length : goal.returns-in_err-length
unfolding wave_line_c
returns-in_err-length c =
    let du = c.in_ok-du.ensures in
    let amp = simp c.hypot.ensures at c.in_ok-amp.ensures in
    let length = simp (c.steep.ensures, ← value_is _ _ du, ← value_is _ _ amp) at c.in_err-length.ensures in
    stops _ _ _ c.from_residual-in_err-length.ensures (simp (opened, run_counts_rules, none_met _ _ du, none_met _ _ amp, met_is _ _ length, told_rules))

pub returns-in_err-q : goal.returns-in_err-q
unfolding wave_line_c
returns-in_err-q c =
    let du = c.in_ok-du.ensures in
    let amp = simp c.hypot.ensures at c.in_ok-amp.ensures in
    let length = simp (c.steep.ensures, ← value_is _ _ du, ← value_is _ _ amp) at c.in_ok-length.ensures in
    let q = simp (← value_is _ _ length, ← value_is _ _ amp) at c.in_err-q.ensures in
    stops _ _ _ c.from_residual-in_err-q.ensures (simp (opened, run_counts_rules, none_met _ _ du, none_met _ _ amp, none_met _ _ length, met_is _ _ q, told_rules))

pub returns : goal.returns
unfolding wave_line_c
returns c =
    let du = c.in_ok-du.ensures in
    let amp = simp c.hypot.ensures at c.in_ok-amp.ensures in
    let length = simp (c.steep.ensures, ← value_is _ _ du, ← value_is _ _ amp) at c.in_ok-length.ensures in
    let q = simp (← value_is _ _ length, ← value_is _ _ amp) at c.in_ok-q.ensures in
    let last = simp (← value_is _ _ q) at c.count.ensures in
    follows _ _ _ _ last (simp (opened, run_counts_rules, none_met _ _ du, none_met _ _ amp, none_met _ _ length, none_met _ _ q)) refl
