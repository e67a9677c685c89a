-- `edge_lines::corners` meets its contract. Assumes nothing.
use mathlib.Core.Path.{◌∙◌, ap, sym, subst}
use Rattle.checked.specs.Checked.{due}
use Rattle.checked.specs.ToldLaws.{exit_is}
use Rattle.edge_lines.specs.Lines.{corner}
use Rattle.edge_lines.specs.Laws.{TooLarge, corner_large, corner_stays}
use Rattle.edge_lines.proofs.corners.Goals as goal

pub returns-in_err-put_corner-clause-line : goal.returns-in_err-put_corner-clause-line
returns-in_err-put_corner-clause-line c =
    let a = c.args in
    let high = c.in_err-put_corner.ensures.line in
    exit_is _ _ c.from_residual.ensures
    ∙ corner_stays a.low _ (subst TooLarge (sym high) (corner_large a.high _ tt))
    ∙ ap (corner a.low) (high ∙ ap (λ t. corner a.high (due t)) c.end-line.ensures.line)
