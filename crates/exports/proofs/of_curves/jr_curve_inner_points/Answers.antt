use Rattle.std.proofs.Common.{◌∙◌}
use Rattle.c_arrays.specs.ArcRecords.{after_count}
use Rattle.c_arrays.specs.Laws.{drawn_count, drawn_number, known_none, known_some}
use Rattle.exports.proofs.of_curves.jr_curve_inner_points.Goals as goal

pub returns : goal.returns
returns c =
    let read = known_some _ _ _ _ c.known_curve.ensures c.in-Some.is in
    let d = simp (c.vec3_of.ensures, c.vec3_of-2.ensures) at c.write_inner_points.ensures in
    simp (read.0, read.1) (record {
      number = c.store_drawn.ensures.number ∙ drawn_number _ _ _ _ d;
      row = d.rest;
      written = c.store_drawn.ensures.written ∙ drawn_count _ _ _ _ _ d;
    })

pub returns-in_default : goal.returns-in_default
unfolding after_count
returns-in_default c =
    let unread = known_none _ _ _ c.known_curve.ensures c.in_default.is in
    record { number = simp unread; row = simp unread; written = simp unread }
