use Rattle.c_arrays.specs.Laws.{known_none, known_some}
use Rattle.c_arrays.specs.Records.{stored}
use Rattle.exports.proofs.of_pieces.jr_piece_polyline.Goals as goal

pub returns : goal.returns
returns c =
    let read = known_some _ _ _ _ c.known_piece.ensures c.in-Some.is in
    simp (read.0, read.1) (simp c.polyline.ensures at c.store.ensures)

pub returns-in_default : goal.returns-in_default
unfolding stored
returns-in_default c =
    let unread = known_none _ _ _ c.known_piece.ensures c.in_default.is in
    record { number = simp unread; out = simp unread }
