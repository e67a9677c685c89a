use Rattle.std.specs.Prelude.{refl}
use Rattle.std.proofs.Common.{ap, sym}
use Rattle.checked.specs.Answers.{number_of}
use Rattle.checked.specs.ToldLaws.{exit_is}
use Rattle.rows.specs.Rows.{point}
use Rattle.rows.specs.Laws.{flat_part, stored_not, stored_all}
use Rattle.rows.proofs.write_kept.Goals as goal

pub returns-in_err-work_out : goal.returns-in_err-work_out
returns-in_err-work_out g c = λ f gives. stored_not f c.args.m c.args.row.now _ _ (ap number_of (exit_is _ _ c.from_residual.ensures)) (c.in_err-work_out.ensures f gives).met

pub returns : goal.returns
returns g c = λ f gives.
    let kept = c.in_ok-work_out.ensures f gives in
    stored_all f c.args.m c.args.row.now _ _ kept.met (sym kept.met) (simp (c.copy_from_slice.ensures.after, kept.points refl, flat_part point))
