use Rattle.checked.specs.LoopsLaws.{fold_start, fold_goes, fold_stops}
use Rattle.std.proofs.Common.{◌∙◌, ◌≡◌, arith}
use Rattle.checked.specs.ToldLaws.{exit_is, gives, none_met, value_is, met_is, rules as told_rules}
use Rattle.piece_boxes.specs.Brackets.{bisected_c}
use Rattle.piece_boxes.specs.BracketsLaws.{derivative_is, halve_refusal, halve_value}
use Rattle.piece_boxes.proofs.brackets.bisected.Goals as goal

pub loop-init : goal.loop-init
loop-init c = fold_start _ _

pub returns-in_err-m : goal.returns-in_err-m
unfolding bisected_c
returns-in_err-m c =
    let g = c.args in
    let m = c.in_err-m.ensures in
    exit_is _ _ c.from_residual.ensures ∙
    fold_stops _ _ _ _ _ _ c.loop-test.true c.loop.invariant (simp (halve_refusal g.c g.upright g.rising c.loop.a, met_is _ _ m, told_rules))

pub returns-in_err-d : goal.returns-in_err-d
unfolding bisected_c
returns-in_err-d c =
    let g = c.args in
    let m = c.in_ok-m.ensures in
    let d = simp (c.motion.ensures.u, c.motion.ensures.v, ← value_is _ _ m, derivative_is) at c.in_err-d.ensures in
    exit_is _ _ c.from_residual-in_err-d.ensures ∙
    fold_stops _ _ _ _ _ _ c.loop-test.true c.loop.invariant (simp (halve_refusal g.c g.upright g.rising c.loop.a, none_met _ _ m, met_is _ _ d, told_rules))

pub loop-preserved : goal.loop-preserved
loop-preserved c =
    let g = c.args in
    let m = c.in_ok-m.ensures in
    let d = simp (c.motion.ensures.u, c.motion.ensures.v, ← value_is _ _ m, derivative_is) at c.in_ok-d.ensures in
    let h = simp (← value_is _ _ m, ← value_is _ _ d) at c.chosen-a.ensures in
    fold_goes _ _ c.loop.counter _ _ c.loop.invariant
    (gives _ _
    (simp (halve_refusal g.c g.upright g.rising c.loop.a, none_met _ _ m, none_met _ _ d, told_rules))
    (simp (halve_value g.c g.upright g.rising c.loop.a, h)))

pub returns : goal.returns
unfolding bisected_c
returns c =
    let all : c.loop.counter ≡ 60 = omega arith in
    rw all at c.loop.invariant
