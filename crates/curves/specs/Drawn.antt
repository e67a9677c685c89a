-- What drawing a curve to a lent row is due to answer.
use Rattle.std.specs.Prelude.{ℕ, ◌-◌, ◌*◌, ◌&&◌, List, Float}
use Rattle.checked.specs.Refusals.{OUT_OF_RANGE}
use Rattle.checked.specs.Checked.{Checked, ◌>>=◌, within, Due, answered}
use Rattle.checked.specs.Answers.{and_then}
use Rattle.checked.specs.Tests.{fails, ◌or◌, passing, chord_test}
use Rattle.vectors.specs.declared.Vec3.{Vec3}
use Rattle.vectors.specs.Vectors.{within3}
use Rattle.arcs.specs.Entries as arcs
use Rattle.chord_counts.specs.Counts.{MOST}
use Rattle.piece_lengths.specs.Counts.{chords_c}
use Rattle.pieces.specs.Pieces.{run_c}
use Rattle.pieces.specs.Entries as pieces
use Rattle.piece_curves.specs.declared.space_points.Rolling.{Rolling}
use Rattle.piece_rows.specs.Inner.{inners_due}
use Rattle.curves.specs.declared.RolledAt.{RolledAt}
use Rattle.curves.specs.declared.Curve.{Curve}
use Rattle.curves.specs.declared.Curve.TheVariants as curve

-- the longest row that drawing a curve can ask for: three numbers for each point, one point fewer than chords
-- (`row_suffices` of crates/curve_theorems)
abbrev pub CURVE_ROW : ℕ
CURVE_ROW = 3 * (MOST - 1)

-- ---- a piece at a radius from its axis
-- into how many chords it is cut
unfoldable pub chords_of : RolledAt → Float → Checked ℕ
chords_of w chord = do
  r ← run_c w.piece
  chords_c r w.radius chord

-- the piece, ready to be drawn
unfoldable pub ready : RolledAt → Rolling
ready w = record {
  dev = w.piece.dev;
  radius = w.radius;
  run = (run_c w.piece).value;
}

-- the number of the test that fails first: both ends are tried too, though a piece does not read
-- them; a chord of -0 is 0
unfoldable pub tests : RolledAt → Vec3 → Vec3 → Float → ℕ
tests w from to chord = fails OUT_OF_RANGE (within w.radius && (within3 from && (within3 to && within chord))) or pieces.tests w.piece or chord_test chord

-- in a row of `room` numbers: the count comes before the row's length, which comes before the points
unfoldable pub piece_due : RolledAt → Vec3 → Vec3 → Float → ℕ → Due (List Vec3)
piece_due w from to chord room = passing (tests w from to chord) (and_then (answered (chords_of w chord)) (λ n. inners_due (ready w) n room))

-- ---- `Curve::inner_points`: those of its arc from one end to the other, or of its piece
unfoldable pub inner_points_due : Curve → Vec3 → Vec3 → Float → ℕ → Due (List Vec3)
inner_points_due (curve.Arc a) from to chord room = arcs.inner_points_due a from to chord room
inner_points_due (curve.Rolled w) from to chord room = piece_due w from to chord room
