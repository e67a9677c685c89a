use mathlib.Core.Path.{◌∙◌}
use Rattle.checked.specs.ToldLaws.{none_met, value_is, met_is, gives, stops, rules as told_rules}
use Rattle.face_paths.specs.PiecePaths.{piece_path_of_c}
use Rattle.face_paths.specs.Laws.{piece_of_refusal}
use Rattle.face_paths.proofs.piece_paths.piece_path_of.Goals as goal

pub returns-in_err-d : goal.returns-in_err-d
returns-in_err-d c piece told_piece =
    let d = simp (c.dot.ensures) at c.in_err-d.ensures in
    stops _ _ _ c.from_residual.ensures (piece_of_refusal _ _ _ _ piece ∙ (unfold piece_path_of_c in rw (met_is _ _ d) (simp told_rules)))

pub returns-in_err-start : goal.returns-in_err-start
returns-in_err-start c piece told_piece =
    let d = simp (c.dot.ensures) at c.in_ok-d.ensures in
    let start = simp (c.dot-3.ensures, c.dot-2.ensures) at c.in_err-start.ensures in
    stops _ _ _ c.from_residual-in_err-start.ensures (piece_of_refusal _ _ _ _ piece ∙ (unfold piece_path_of_c in rw (none_met _ _ d, met_is _ _ start) (simp told_rules)))

pub returns-in_err-z : goal.returns-in_err-z
returns-in_err-z c piece told_piece =
    let d = simp (c.dot.ensures) at c.in_ok-d.ensures in
    let start = simp (c.dot-3.ensures, c.dot-2.ensures) at c.in_ok-start.ensures in
    let z = simp (c.dot-4.ensures, c.minus.ensures) at c.in_err-z.ensures in
    stops _ _ _ c.from_residual-in_err-z.ensures (piece_of_refusal _ _ _ _ piece ∙ (unfold piece_path_of_c in rw (none_met _ _ d, none_met _ _ start, met_is _ _ z) (simp told_rules)))

pub returns-in_err-run : goal.returns-in_err-run
unfolding piece_path_of_c
returns-in_err-run c piece told_piece =
    let d = simp (c.dot.ensures) at c.in_ok-d.ensures in
    let start = simp (c.dot-3.ensures, c.dot-2.ensures) at c.in_ok-start.ensures in
    let z = simp (c.dot-4.ensures, c.minus.ensures) at c.in_ok-z.ensures in
    let run = met_is piece _ (simp c.in_err-run.was at told_piece) in
    stops _ _ _ c.from_residual-in_err-run.ensures (piece_of_refusal _ _ _ _ piece ∙ rw (none_met _ _ d, none_met _ _ start, none_met _ _ z, run) (simp told_rules))

pub returns : goal.returns
unfolding piece_path_of_c
returns c piece told_piece =
    let d = simp (c.dot.ensures) at c.in_ok-d.ensures in
    let start = simp (c.dot-3.ensures, c.dot-2.ensures) at c.in_ok-start.ensures in
    let z = simp (c.dot-4.ensures, c.minus.ensures) at c.in_ok-z.ensures in
    let run = none_met piece _ (simp c.in_ok-run.was at told_piece) in
    let value = value_is piece _ (simp c.in_ok-run.was at told_piece) in
    gives _ _
    (piece_of_refusal _ _ _ _ piece ∙ rw (none_met _ _ d, none_met _ _ start, none_met _ _ z, run) (simp told_rules))
    (simp (c.side.ensures, value_is _ _ d, value_is _ _ start, value_is _ _ z, value))
