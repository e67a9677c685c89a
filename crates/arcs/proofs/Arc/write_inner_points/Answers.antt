use Rattle.checked.specs.TestsLaws.{passing_none}
use Rattle.checked.specs.ToldLaws.{passing_number}
use Rattle.rows.specs.Rows.{point}
use Rattle.rows.specs.Laws.{drawn_stops}
use Rattle.arcs.specs.Entries.{inner_points_due}
use Rattle.arcs.proofs.Arc.write_inner_points.Goals as goal

pub returns-in_err-require_drawing : goal.returns-in_err-require_drawing
unfolding inner_points_due
returns-in_err-require_drawing c = drawn_stops point _ _ _ _ c.from_residual.ensures (simp (← c.chord_within.ensures, ← c.in_err-require_drawing.ensures, passing_number))

pub returns-in_err-cut : goal.returns-in_err-cut
unfolding inner_points_due
returns-in_err-cut c = drawn_stops point _ _ _ _ c.from_residual-in_err-cut.ensures (simp (← c.chord_within.ensures, ← c.in_ok-require_drawing.ensures, passing_none, ← c.in_err-cut.ensures))

pub returns : goal.returns
unfolding inner_points_due
returns c = simp (← c.chord_within.ensures, ← c.in_ok-require_drawing.ensures, passing_none, ← c.in_ok-cut.ensures) c.write_points.ensures
