use Rattle.std.proofs.Common.{◌∙◌, ap}
use Rattle.checked.specs.Answers.{number_of, after}
use Rattle.checked.specs.ToldLaws.{exit_is}
use Rattle.arcs.proofs.Arc.extend_bounds.Goals as goal

pub returns-in_err-widened : goal.returns-in_err-widened
returns-in_err-widened c = record {
  says = ap number_of (exit_is _ _ c.from_residual.ensures) ∙ ap number_of c.in_err-widened.ensures;
  leaves = ap (after c.args.bounds.now) c.in_err-widened.ensures;
}

pub returns : goal.returns
returns c = record {
  says = ap number_of c.in_ok-widened.ensures;
  leaves = ap (after c.args.bounds.now) c.in_ok-widened.ensures;
}
