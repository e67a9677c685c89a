use Rattle.checked.specs.LoopsLaws.{fold_start, fold_goes, fold_stops}
use Rattle.std.proofs.Common.{◌∙◌, ◌+◌, arith}
use Rattle.checked.specs.ToldLaws.{exit_is, gives, none_met, value_is, met_is, rules as told_rules}
use Rattle.piece_boxes.specs.MeetBoxesLaws.{span_refusal, span_value}
use Rattle.piece_boxes.proofs.meet_boxes.spanned.Goals as goal

pub loop-k-init : goal.loop-k-init
loop-k-init c = fold_start _ _

pub returns-in_err-b : goal.returns-in_err-b
returns-in_err-b c =
    let d = c.requires.held c.loop-k.k (omega (arith, c.loop-k-test.true)) in
    let e = c.requires.held (c.loop-k.k + 1) (omega (arith, c.loop-k-test.true)) in
    let b = simp (d, e) at c.in_err-b.ensures in
    exit_is _ _ c.from_residual.ensures ∙ fold_stops _ _ _ _ _ _ c.loop-k-test.true c.loop-k.invariant (simp (span_refusal, met_is _ _ b, told_rules))

pub returns-in_err-b-2 : goal.returns-in_err-b-2
returns-in_err-b-2 c =
    let d = c.requires.held c.loop-k.k (omega (arith, c.loop-k-test.true)) in
    let e = c.requires.held (c.loop-k.k + 1) (omega (arith, c.loop-k-test.true)) in
    let a = simp (d, e) at c.in_ok-b.ensures in
    let b = simp (d, e, ← value_is _ _ a) at c.in_err-b-2.ensures in
    exit_is _ _ c.from_residual-in_err-b-2.ensures ∙ fold_stops _ _ _ _ _ _ c.loop-k-test.true c.loop-k.invariant (simp (span_refusal, none_met _ _ a, met_is _ _ b, told_rules))

pub loop-k-preserved : goal.loop-k-preserved
loop-k-preserved c =
    let d = c.requires.held c.loop-k.k (omega (arith, c.loop-k-test.true)) in
    let e = c.requires.held (c.loop-k.k + 1) (omega (arith, c.loop-k-test.true)) in
    let a = simp (d, e) at c.in_ok-b.ensures in
    let b = simp (d, e, ← value_is _ _ a) at c.in_ok-b-2.ensures in
    fold_goes _ _ c.loop-k.k _ _ c.loop-k.invariant (gives _ _ (simp (span_refusal, none_met _ _ a, none_met _ _ b, told_rules)) (simp (span_value, value_is _ _ b)))
