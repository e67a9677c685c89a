use Rattle.std.proofs.Common.{sym, leb-true}
use Rattle.checked.specs.TestsLaws.{holds}
use Rattle.checked.specs.ToldLaws.{passing_number}
use Rattle.rows.specs.Laws.{drawn_stops, written_not, written_all}
use Rattle.rows.specs.Rows.{point}
use Rattle.rows.proofs.write.Goals as goal
use Rattle.rows.proofs.write.Goals.{then-m+in_ok-write_kept, else-m+in_ok-write_twice}

pub returns-in_err-require : goal.returns-in_err-require
returns-in_err-require g c = λ f gives. drawn_stops point _ _ _ _ c.from_residual.ensures (simp (← c.in_err-require.ensures, passing_number))

pub write_kept-requires-clause-fits_row : goal.write_kept-requires-clause-fits_row
write_kept-requires-clause-fits_row g c = leb-true _ _ (holds 5 _ (sym c.in_ok-require.ensures))

pub returns-in_err-write_kept : goal.returns-in_err-write_kept
returns-in_err-write_kept g c = λ f gives. written_not f c.args.m c.args.row.now (sym c.in_ok-require.ensures) _ _ _ c.from_residual-in_err-write_kept.ensures (c.in_err-write_kept.ensures f gives)

pub write_twice-requires-clause-fits_row : goal.write_twice-requires-clause-fits_row
write_twice-requires-clause-fits_row g c = leb-true _ _ (holds 5 _ (sym c.in_ok-require.ensures))

pub returns-in_err-write_twice : goal.returns-in_err-write_twice
returns-in_err-write_twice g c = λ f gives. written_not f c.args.m c.args.row.now (sym c.in_ok-require.ensures) _ _ _ c.from_residual-in_err-write_twice.ensures (c.in_err-write_twice.ensures f gives)

pub returns : goal.returns
returns g c = λ f gives. elim c.if-m.branch [
  | then-m+in_ok-write_kept w ↦ rw w.row-is (written_all f c.args.m c.args.row.now (sym c.in_ok-require.ensures) _ (w.in_ok-write_kept.ensures f gives))
  | else-m+in_ok-write_twice w ↦ rw w.row-is (written_all f c.args.m c.args.row.now (sym c.in_ok-require.ensures) _ (w.in_ok-write_twice.ensures f gives))
]
