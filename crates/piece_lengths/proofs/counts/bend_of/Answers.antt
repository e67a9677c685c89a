use Rattle.checked.specs.LoopsLaws.{fold_start, fold_goes, fold_stops}
use Rattle.std.proofs.Common.{◌∙◌, ◌≡◌, arith}
use Rattle.checked.specs.ToldLaws.{exit_is, gives, none_met, value_is, met_is, rules as told_rules}
use Rattle.piece_lengths.specs.Counts.{bend_c}
use Rattle.piece_lengths.specs.CountsLaws.{sample_refusal, sample_value}
use Rattle.piece_lengths.proofs.counts.bend_of.Goals as goal

pub loop-k-init : goal.loop-k-init
loop-k-init c = fold_start _ _

pub returns-in_err-t : goal.returns-in_err-t
unfolding bend_c
returns-in_err-t c =
    let t = c.in_err-t.ensures in
    exit_is _ _ c.from_residual.ensures ∙
    fold_stops _ _ _ _ _ _ c.loop-k-test.true c.loop-k.invariant (simp (sample_refusal c.args.c c.loop-k.k c.loop-k.bend, met_is _ _ t, told_rules))

pub returns-in_err-d : goal.returns-in_err-d
unfolding bend_c
returns-in_err-d c =
    let t = c.in_ok-t.ensures in
    let d = simp (← value_is _ _ t) at c.in_err-d.ensures in
    exit_is _ _ c.from_residual-in_err-d.ensures ∙
    fold_stops _ _ _ _ _ _ c.loop-k-test.true c.loop-k.invariant (simp (sample_refusal c.args.c c.loop-k.k c.loop-k.bend, none_met _ _ t, met_is _ _ d, told_rules))

pub returns-in_err-h : goal.returns-in_err-h
unfolding bend_c
returns-in_err-h c =
    let t = c.in_ok-t.ensures in
    let d = simp (← value_is _ _ t) at c.in_ok-d.ensures in
    let h = simp (c.hypot.ensures, ← value_is _ _ d) at c.in_err-h.ensures in
    exit_is _ _ c.from_residual-in_err-h.ensures ∙
    fold_stops _ _ _ _ _ _ c.loop-k-test.true c.loop-k.invariant (simp (sample_refusal c.args.c c.loop-k.k c.loop-k.bend, none_met _ _ t, none_met _ _ d, met_is _ _ h, told_rules))

pub loop-k-preserved : goal.loop-k-preserved
loop-k-preserved c =
    let t = c.in_ok-t.ensures in
    let d = simp (← value_is _ _ t) at c.in_ok-d.ensures in
    let h = simp (c.hypot.ensures, ← value_is _ _ d) at c.in_ok-h.ensures in
    fold_goes _ _ c.loop-k.k _ _ c.loop-k.invariant
    (gives _ _
    (simp (sample_refusal c.args.c c.loop-k.k c.loop-k.bend, none_met _ _ t, none_met _ _ d, none_met _ _ h, told_rules))
    (simp (sample_value c.args.c c.loop-k.k c.loop-k.bend, c.greatest-bend.ensures, value_is _ _ h)))

pub returns : goal.returns
unfolding bend_c
returns c =
    let all : c.loop-k.k ≡ 257 = omega arith in
    rw all at c.loop-k.invariant
