use Rattle.std.specs.Prelude.{refl}
use Rattle.std.proofs.Common.{◌∙◌, ap, arith}
use Rattle.checked.specs.Answers.{number_of}
use Rattle.checked.specs.ToldLaws.{none_met, met_is, exit_is}
use Rattle.rows.specs.Rows.{up_to}
use Rattle.rows.specs.Laws.{up_to_refused, up_to_more}
use Rattle.rows.proofs.settle.Goals as goal

pub loop-i-init : goal.loop-i-init
unfolding up_to
loop-i-init g c = λ f gives. refl

pub returns-in_err-point : goal.returns-in_err-point
returns-in_err-point g c = λ f gives.
    ap number_of (exit_is _ _ c.from_residual.ensures)
    ∙ up_to_refused f c.loop-i.i c.args.m c.in_err-point.field-0.0 (omega arith) (c.loop-i.invariant f gives) (met_is _ _ (gives _ _ (omega arith) c.in_err-point.ensures))

pub loop-i-preserved : goal.loop-i-preserved
loop-i-preserved g c = λ f gives. up_to_more f c.loop-i.i (c.loop-i.invariant f gives) (none_met _ _ (gives _ _ (omega arith) c.in_ok-point.ensures))
