use Rattle.checked.specs.ToldLaws.{fails_by, passes}
use Rattle.revolutions.specs.Laws.{piece_is}
use Rattle.revolutions.specs.Revolutions.{add_due}
use Rattle.revolutions.proofs.add_piece.Goals as goal

pub returns-in_err-require_piece : goal.returns-in_err-require_piece
unfolding add_due
returns-in_err-require_piece c = fails_by _ _ _ _ c.from_residual.ensures c.in_err-require_piece.ensures

pub returns : goal.returns
unfolding add_due
returns c = passes _ _ _ c.in_ok-require_piece.ensures (simp (c.with_piece.ensures, piece_is))
