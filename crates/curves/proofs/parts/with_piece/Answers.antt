use Rattle.curves.specs.Parts.{piece_c}
use Rattle.checked.specs.ToldLaws.{exit_is, none_met, value_is, met_is, rules as told_rules}
use mathlib.Core.Path.{◌∙◌}
use Rattle.curves.proofs.parts.with_piece.Goals as goal

pub returns-in_err-r : goal.returns-in_err-r
unfolding piece_c
returns-in_err-r c = exit_is _ _ c.from_residual.ensures ∙ simp (met_is _ _ c.in_err-r.ensures, told_rules)

pub returns : goal.returns
unfolding piece_c
returns c =
    let r = c.in_ok-r.ensures in
    simp (c.extended_by.ensures, none_met _ _ r, value_is _ _ r, told_rules)
