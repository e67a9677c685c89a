use Rattle.checked.specs.LoopsLaws.{fold_start, fold_goes, fold_stops}
use mathlib.Core.Path.{refl}
use native.Mathlib.Omega.{arith}
use Rattle.std.proofs.Common.{◌∙◌, ◌≡◌, ap}
use lib.ListN.{length-set}
use lib.Ieee.{of_bits, neg, div}
use Rattle.checked.specs.Answers.{and_then}
use Rattle.checked.specs.Checked.{Due, due}
use Rattle.checked.specs.ToldLaws.{exit_is, gives, none_met, value_is, met_is, rules as told_rules}
use Rattle.piece_boxes.specs.declared.meet_boxes.Samples.{Samples}
use Rattle.piece_boxes.specs.MeetBoxes.{start_c}
use Rattle.piece_boxes.specs.MeetBoxesLaws.{stored_none, stored_more, step_refusal, step_value}
use Rattle.piece_boxes.proofs.meet_boxes.sampled.Goals as goal

pub loop-k-init : goal.loop-k-init
unfolding of_bits neg div
loop-k-init c = (refl, fold_start _ _, stored_none _ _)

pub returns-in_err-slopes-clause-ends : goal.returns-in_err-slopes-clause-ends
unfolding start_c
returns-in_err-slopes-clause-ends c =
    ap (λ (d : Due Samples). and_then d (λ s. due s.ends)) (exit_is _ _ c.from_residual.ensures) ∙
    fold_stops _ _ _ _ _ _ c.loop-k-test.true c.loop-k.invariant.1 (simp (step_refusal c.args.c c.loop-k.k c.loop-k.ends, met_is _ _ c.in_err-slopes.ensures, told_rules))

pub returns-in_err-ends-clause-ends : goal.returns-in_err-ends-clause-ends
unfolding start_c
returns-in_err-ends-clause-ends c =
    ap (λ (d : Due Samples). and_then d (λ s. due s.ends)) (exit_is _ _ c.from_residual-in_err-ends.ensures) ∙
    fold_stops _ _ _ _ _ _ c.loop-k-test.true c.loop-k.invariant.1
    (simp (step_refusal c.args.c c.loop-k.k c.loop-k.ends, none_met _ _ c.in_ok-slopes.ensures, met_is _ _ c.in_err-ends.ensures, told_rules))

pub loop-k-preserved : goal.loop-k-preserved
loop-k-preserved c =
    let at = c.loop-k in
    let d = c.in_ok-slopes.ensures in
    let e = c.in_ok-ends.ensures in (
      simp length-set at.invariant.0,
      fold_goes _ _ at.k _ _ at.invariant.1
          (gives _ _ (simp (step_refusal c.args.c at.k at.ends, none_met _ _ d, none_met _ _ e, told_rules)) (simp (step_value c.args.c at.k at.ends, value_is _ _ e))),
      simp (← value_is _ _ d) (stored_more _ at.k at.slopes (omega arith) at.invariant.2),
    )

pub returns-clause-ends : goal.returns-clause-ends
unfolding start_c
returns-clause-ends c =
    let all : c.loop-k.k ≡ 65 = omega arith in
    rw all at c.loop-k.invariant.1
