-- `edge_lines::Line::put_corner` meets its contract. Assumes nothing.
use mathlib.Core.Path.{◌≡◌, ◌∙◌, ap, sym, subst}
use mathlib.Core.List.{List}
use Prim.Native.Nat.{ℕ}
use Rattle.std.specs.Prelude.{Result}
use Rattle.std.specs.Result.{IsErr, IsErrAnd}
use Rattle.std.proofs.lemmas.Result.{err_from_is_err_and}
use Rattle.checked.specs.Checked.{refused}
use Rattle.checked.specs.Told.{number}
use Rattle.checked.specs.declared.Refusal.{Refusal}
use Rattle.decimals.specs.Thousandths.{thousandths}
use Rattle.edge_lines.specs.Lines.{spaced, corner, stands}
use Rattle.edge_lines.specs.Laws.{TooLarge, spaced_large, spaced_stays}
use Rattle.edge_lines.proofs.Line.put_corner.Goals as goal

exit_stands : (answer : Result Unit Refusal) (r : Refusal) (text : List ℕ) → IsErr answer × IsErrAnd answer (λ e. e ≡ r) → stands answer text ≡ refused (number r)
exit_stands answer r text h =
    let e = err_from_is_err_and answer h.1 in
    ap (λ (a : Result Unit Refusal). stands a text) e.1 ∙ ap (λ (x : Refusal). refused (number x)) e.2

pub returns-in_err-put_coordinate-clause-line : goal.returns-in_err-put_coordinate-clause-line
unfolding corner
returns-in_err-put_coordinate-clause-line c =
    let p = c.args.p in
    let z = c.in_err-put_coordinate.ensures.line in
    let large = subst TooLarge (sym z) (spaced_large p.z _ tt) in
    exit_stands _ _ _ c.from_residual.ensures ∙ spaced_stays p.x _ large ∙ ap (spaced (thousandths p.x)) (spaced_stays p.y _ large ∙ ap (spaced (thousandths p.y)) z)

pub returns-in_err-put_coordinate-2-clause-line : goal.returns-in_err-put_coordinate-2-clause-line
unfolding corner
returns-in_err-put_coordinate-2-clause-line c =
    let p = c.args.p in
    let y = c.in_err-put_coordinate-2.ensures.line in
    let large = subst TooLarge (sym y) (spaced_large p.y _ tt) in
    exit_stands _ _ _ c.from_residual-in_err-put_coordinate-2.ensures
    ∙ spaced_stays p.x _ large
    ∙ ap (spaced (thousandths p.x)) (y ∙ ap (spaced (thousandths p.y)) c.in_ok-put_coordinate.ensures.line)
