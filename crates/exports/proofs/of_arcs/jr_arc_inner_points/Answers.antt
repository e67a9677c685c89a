use Rattle.std.proofs.Common.{◌∙◌}
use Rattle.c_arrays.specs.Laws.{drawn_count, drawn_number}
use Rattle.exports.proofs.of_arcs.jr_arc_inner_points.Goals as goal

pub returns : goal.returns
returns c =
    let d = simp (c.arc_of.ensures, c.vec3_of.ensures, c.vec3_of-2.ensures) at c.write_inner_points.ensures in
    record {
      number = c.store_drawn.ensures.number ∙ drawn_number _ _ _ _ d;
      row = d.rest;
      written = c.store_drawn.ensures.written ∙ drawn_count _ _ _ _ _ d;
    }
