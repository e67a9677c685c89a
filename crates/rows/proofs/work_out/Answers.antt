use Rattle.std.specs.Prelude.{refl}
use Rattle.std.proofs.Common.{◌∙◌, ap, arith, sym}
use lib.ListN.{length-set}
use Rattle.checked.specs.Answers.{number_of}
use Rattle.checked.specs.ToldLaws.{none_met, value_is, met_is, exit_is, number_some}
use Rattle.rows.specs.Rows.{up_to, flat_items, point}
use Rattle.rows.specs.Laws.{up_to_refused, up_to_more, item_put}
use Rattle.rows.proofs.work_out.Goals as goal

pub loop-i-init : goal.loop-i-init
unfolding up_to flat_items
loop-i-init g c = (refl, λ f gives. (refl, refl))

pub returns-in_err-p : goal.returns-in_err-p
returns-in_err-p g c = λ f gives.
    let exit = ap number_of (exit_is _ _ c.from_residual.ensures) in
    record {
      met = exit ∙ up_to_refused f c.loop-i.i c.args.m c.in_err-p.field-0.0 (omega arith) (c.loop-i.invariant.1 f gives).0 (met_is _ _ (gives _ _ (omega arith) c.in_err-p.ensures));
      points = λ none. absurd (number_some c.in_err-p.field-0.0 (sym exit ∙ none));
    }

pub loop-i-preserved : goal.loop-i-preserved
loop-i-preserved g c =
    let now = c.loop-i in
    let put = c.put.ensures in (
      simp (put, length-set) now.invariant.0,
      λ f gives.
          let so_far = now.invariant.1 f gives in
          let p = gives _ _ (omega arith) c.in_ok-p.ensures in (
            up_to_more f now.i so_far.0 (none_met _ _ p),
            simp (put, so_far.1, ← value_is _ _ p) (item_put point f c.args.buf.now now.i (omega (arith, c.requires.fits))),
          ),
    )
