use Rattle.c_arrays.specs.Laws.{known_none, known_some}
use Rattle.c_arrays.specs.Records.{stored}
use Rattle.exports.proofs.of_sums.jr_wall.Goals as goal

pub returns : goal.returns
returns c =
    let read = known_some _ _ _ _ c.known_piece.ensures c.in-Some.is in
    let s = simp (c.with_cut_wall.ensures, c.sums_of.ensures, c.vec3_of.ensures) at c.store.ensures in
    simp (read.0, read.1) (record { number = s.number; acc = s.out })

pub returns-in_default : goal.returns-in_default
unfolding stored
returns-in_default c =
    let unread = known_none _ _ _ c.known_piece.ensures c.in_default.is in
    record { number = simp unread; acc = simp unread }
