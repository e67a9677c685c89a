use mathlib.Core.Path.{refl}
use Rattle.checked.specs.Laws.{opened}
use Rattle.checked.specs.ToldLaws.{stops, follows, none_met, value_is, met_is, rules as told_rules}
use Rattle.piece_lengths.specs.Counts.{quadrature_c}
use Rattle.piece_lengths.proofs.counts.quadrature_pieces.Goals as goal

pub returns-in_err-m : goal.returns-in_err-m
unfolding quadrature_c
returns-in_err-m c =
    let m = c.in_err-m.ensures in
    stops _ _ _ c.from_residual.ensures (simp (opened, met_is _ _ m, told_rules))

pub returns-in_err-bend : goal.returns-in_err-bend
unfolding quadrature_c
returns-in_err-bend c =
    let m = c.in_ok-m.ensures in
    let bend = simp (← value_is _ _ m) at c.in_err-bend.ensures in
    stops _ _ _ c.from_residual-in_err-bend.ensures (simp (opened, none_met _ _ m, met_is _ _ bend, told_rules))

pub returns-in_err-x : goal.returns-in_err-x
unfolding quadrature_c
returns-in_err-x c =
    let m = c.in_ok-m.ensures in
    let bend = simp (← value_is _ _ m) at c.in_ok-bend.ensures in
    let x = simp (c.greatest.ensures, ← value_is _ _ m, ← value_is _ _ bend) at c.in_err-x.ensures in
    stops _ _ _ c.from_residual-in_err-x.ensures (simp (opened, none_met _ _ m, none_met _ _ bend, met_is _ _ x, told_rules))

pub returns : goal.returns
unfolding quadrature_c
returns c =
    let m = c.in_ok-m.ensures in
    let bend = simp (← value_is _ _ m) at c.in_ok-bend.ensures in
    let x = simp (c.greatest.ensures, ← value_is _ _ m, ← value_is _ _ bend) at c.in_ok-x.ensures in
    let last = simp (← value_is _ _ x) at c.count.ensures in
    follows _ _ _ _ last (simp (opened, none_met _ _ m, none_met _ _ bend, none_met _ _ x)) refl
