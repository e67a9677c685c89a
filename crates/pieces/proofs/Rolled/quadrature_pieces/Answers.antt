use Rattle.pieces.specs.Entries.{quadrature_due}
use Rattle.checked.specs.ToldLaws.{fails_by, passes, stops, none_met, value_is, met_is, rules as told_rules}
use Rattle.pieces.proofs.Rolled.quadrature_pieces.Goals as goal

pub returns-in_err-tried : goal.returns-in_err-tried
unfolding quadrature_due
returns-in_err-tried c = fails_by _ _ _ _ c.from_residual.ensures (c.in_err-tried.ensures)

pub returns-in_err-run : goal.returns-in_err-run
unfolding quadrature_due
returns-in_err-run c = passes _ _ _ (c.in_ok-tried.ensures) (stops _ _ _ c.from_residual-in_err-run.ensures (simp (met_is _ _ c.in_err-run.ensures, told_rules)))

pub returns : goal.returns
unfolding quadrature_due
returns c =
    let r = c.in_ok-run.ensures in
    passes _ _ _ (c.in_ok-tried.ensures) (simp (c.quadrature_pieces.ensures, none_met _ _ r, value_is _ _ r, told_rules))
