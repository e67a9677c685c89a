use Rattle.checked.specs.ToldLaws.{passing_number, none_met, value_is, met_is, rules as told_rules}
use Rattle.checked.specs.TestsLaws.{passing_none}
use Rattle.rows.specs.Rows.{point}
use Rattle.rows.specs.Laws.{drawn_stops}
use Rattle.curves.specs.Drawn.{chords_of, ready, piece_due}
use Rattle.curves.proofs.drawn.write_piece.Goals as goal

pub returns-in_err-tried : goal.returns-in_err-tried
unfolding piece_due
returns-in_err-tried c = drawn_stops point _ _ _ _ c.from_residual.ensures (simp (← c.in_err-tried.ensures, passing_number))

pub returns-in_err-run : goal.returns-in_err-run
unfolding piece_due chords_of
returns-in_err-run c = drawn_stops point _ _ _ _ c.from_residual-in_err-run.ensures (simp (← c.in_ok-tried.ensures, passing_none, met_is _ _ c.in_err-run.ensures, told_rules))

pub returns-in_err-n : goal.returns-in_err-n
unfolding piece_due chords_of
returns-in_err-n c =
    let r = c.in_ok-run.ensures in
    drawn_stops point _ _ _ _ c.from_residual-in_err-n.ensures (simp (← c.in_ok-tried.ensures, passing_none, none_met _ _ r, value_is _ _ r, met_is _ _ c.in_err-n.ensures, told_rules))

pub returns : goal.returns
unfolding piece_due chords_of ready
returns c =
    let r = c.in_ok-run.ensures in
    let n = c.in_ok-n.ensures in
    simp (← c.in_ok-tried.ensures, passing_none, none_met _ _ r, value_is _ _ r, none_met _ _ n, value_is _ _ n, told_rules) c.write_points.ensures
