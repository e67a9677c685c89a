use mathlib.Core.Path.{refl}
use Rattle.checked.specs.ToldLaws.{stops, follows, none_met, value_is, met_is, rules as told_rules}
use Rattle.piece_lengths.specs.Counts.{chords_c}
use Rattle.piece_lengths.specs.CountsLaws.{chords_refusal}
use Rattle.piece_lengths.proofs.counts.chords_of.Goals as goal

pub returns-in_err-m : goal.returns-in_err-m
returns-in_err-m c =
    let m = c.in_err-m.ensures in
    stops _ _ _ c.from_residual.ensures (simp (chords_refusal, met_is _ _ m, told_rules))

pub returns-in_err-x : goal.returns-in_err-x
returns-in_err-x c =
    let m = c.in_ok-m.ensures in
    let x = simp (← value_is _ _ m) at c.in_err-x.ensures in
    stops _ _ _ c.from_residual-in_err-x.ensures (simp (chords_refusal, none_met _ _ m, met_is _ _ x, told_rules))

pub returns-in_err-p : goal.returns-in_err-p
returns-in_err-p c =
    let m = c.in_ok-m.ensures in
    let x = simp (← value_is _ _ m) at c.in_ok-x.ensures in
    let p = simp (← value_is _ _ m) at c.in_err-p.ensures in
    stops _ _ _ c.from_residual-in_err-p.ensures (simp (chords_refusal, none_met _ _ m, none_met _ _ x, met_is _ _ p, told_rules))

pub returns-in_err-own : goal.returns-in_err-own
returns-in_err-own c =
    let m = c.in_ok-m.ensures in
    let x = simp (← value_is _ _ m) at c.in_ok-x.ensures in
    let p = simp (← value_is _ _ m) at c.in_ok-p.ensures in
    let own = simp (← value_is _ _ x, ← value_is _ _ p) at c.in_err-own.ensures in
    stops _ _ _ c.from_residual-in_err-own.ensures (simp (chords_refusal, none_met _ _ m, none_met _ _ x, none_met _ _ p, met_is _ _ own, told_rules))

pub returns-in_err-y : goal.returns-in_err-y
returns-in_err-y c =
    let m = c.in_ok-m.ensures in
    let x = simp (← value_is _ _ m) at c.in_ok-x.ensures in
    let p = simp (← value_is _ _ m) at c.in_ok-p.ensures in
    let own = simp (← value_is _ _ x, ← value_is _ _ p) at c.in_ok-own.ensures in
    let y = simp (← value_is _ _ m) at c.in_err-y.ensures in
    stops _ _ _ c.from_residual-in_err-y.ensures (simp (chords_refusal, none_met _ _ m, none_met _ _ x, none_met _ _ p, none_met _ _ own, met_is _ _ y, told_rules))

pub returns-in_err-q : goal.returns-in_err-q
returns-in_err-q c =
    let m = c.in_ok-m.ensures in
    let x = simp (← value_is _ _ m) at c.in_ok-x.ensures in
    let p = simp (← value_is _ _ m) at c.in_ok-p.ensures in
    let own = simp (← value_is _ _ x, ← value_is _ _ p) at c.in_ok-own.ensures in
    let y = simp (← value_is _ _ m) at c.in_ok-y.ensures in
    let q = c.in_err-q.ensures in
    stops _ _ _ c.from_residual-in_err-q.ensures (simp (chords_refusal, none_met _ _ m, none_met _ _ x, none_met _ _ p, none_met _ _ own, none_met _ _ y, met_is _ _ q, told_rules))

pub returns-in_err-bend : goal.returns-in_err-bend
returns-in_err-bend c =
    let m = c.in_ok-m.ensures in
    let x = simp (← value_is _ _ m) at c.in_ok-x.ensures in
    let p = simp (← value_is _ _ m) at c.in_ok-p.ensures in
    let own = simp (← value_is _ _ x, ← value_is _ _ p) at c.in_ok-own.ensures in
    let y = simp (← value_is _ _ m) at c.in_ok-y.ensures in
    let q = c.in_ok-q.ensures in
    let bend = simp (← value_is _ _ y, ← value_is _ _ q) at c.in_err-bend.ensures in
    stops _ _ _ c.from_residual-in_err-bend.ensures (simp (chords_refusal, none_met _ _ m, none_met _ _ x, none_met _ _ p, none_met _ _ own, none_met _ _ y, none_met _ _ q, met_is _ _ bend, told_rules))

pub returns : goal.returns
returns c =
    let m = c.in_ok-m.ensures in
    let x = simp (← value_is _ _ m) at c.in_ok-x.ensures in
    let p = simp (← value_is _ _ m) at c.in_ok-p.ensures in
    let own = simp (← value_is _ _ x, ← value_is _ _ p) at c.in_ok-own.ensures in
    let y = simp (← value_is _ _ m) at c.in_ok-y.ensures in
    let q = c.in_ok-q.ensures in
    let bend = simp (← value_is _ _ y, ← value_is _ _ q) at c.in_ok-bend.ensures in
    let last = simp (c.greatest.ensures, ← value_is _ _ own, ← value_is _ _ bend) at c.count.ensures in
    follows _ _ _ _ last (simp (chords_refusal, none_met _ _ m, none_met _ _ x, none_met _ _ p, none_met _ _ own, none_met _ _ y, none_met _ _ q, none_met _ _ bend, told_rules)) (unfold chords_c in refl)
