use Rattle.curves.specs.Parts.{moved_piece_c}
use Rattle.checked.specs.ToldLaws.{stops, none_met, value_is, met_is, rules as told_rules}
use Rattle.curves.proofs.parts.moved_piece.Goals as goal

pub returns-in_err-dev : goal.returns-in_err-dev
unfolding moved_piece_c
returns-in_err-dev c = stops _ _ _ c.from_residual.ensures (simp (met_is _ _ c.in_err-dev.ensures, told_rules))

pub returns : goal.returns
unfolding moved_piece_c
returns c =
    let x = c.in_ok-dev.ensures in
    simp (none_met _ _ x, value_is _ _ x, told_rules)
