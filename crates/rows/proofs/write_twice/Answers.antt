use Rattle.std.proofs.Common.{◌∙◌, ap, sym}
use Rattle.checked.specs.Answers.{number_of}
use Rattle.checked.specs.ToldLaws.{exit_is}
use Rattle.rows.specs.Laws.{stored_not, stored_all}
use Rattle.rows.proofs.write_twice.Goals as goal

pub returns-in_err-settle : goal.returns-in_err-settle
returns-in_err-settle g c = λ f gives. stored_not f c.args.m c.args.row.now _ _ (ap number_of (exit_is _ _ c.from_residual.ensures)) (c.in_err-settle.ensures f gives)

pub returns : goal.returns
returns g c = λ f gives.
    let kept = c.work_out.ensures f gives in
    let none = sym (c.in_ok-settle.ensures f gives) in
    stored_all f c.args.m c.args.row.now _ _ kept.met none (kept.points (kept.met ∙ none))
