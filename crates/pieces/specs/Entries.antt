-- What the entries on pieces are due to answer.
use Rattle.std.specs.Prelude.{ℕ, Bool, not, ◌&&◌, Float}
use Rattle.std.specs.Float.Ieee.{lt}
use Rattle.checked.specs.Refusals.{OUT_OF_RANGE, ARC_AND_TRACE, BAD_TOLERANCE}
use Rattle.checked.specs.Checked.{◌>>=◌, within, Due, due, answered}
use Rattle.checked.specs.Numbers.{zero}
use Rattle.checked.specs.Tests.{fails, ◌or◌, passing, neutral_test, chord_test}
use Rattle.vectors.specs.declared.Vec2.{Vec2}
use Rattle.vectors.specs.declared.Vec3.{Vec3}
use Rattle.vectors.specs.Vectors.{within2}
use Rattle.developments.specs.Developments.{development_within}
use Rattle.piece_curves.specs.declared.meet_curves.Place.{Place}
use Rattle.piece_boxes.specs.declared.brackets.FlatBox.{FlatBox}
use Rattle.piece_lengths.specs.declared.measures.Measure.{Measure}
use Rattle.piece_lengths.specs.SecondDerivatives.{second_c}
use Rattle.piece_boxes.specs.CurveBoxes.{box_c}
use Rattle.piece_lengths.specs.Counts.{quadrature_c, chords_c, polyline_c}
use Rattle.pieces.specs.Tests.{arc_within, followed_within, both}
use Rattle.pieces.specs.declared.Rolled.{Rolled}
use Rattle.pieces.specs.Pieces.{run_c, at_c, measure_c, back, normal_c}

-- ---- what is tried
-- all numbers of a piece are within the limit, those of an arc and of a trace too, read or not
unfoldable pub piece_within : Rolled → Bool
piece_within p = development_within p.dev && (within2 p.from && (within2 p.to && (arc_within p.arc && followed_within p.trace)))

-- the number of the test that a piece fails first: its numbers, its neutral radius, and that it has not both an arc and a trace. Numbers that are
-- handed in beside it are tried before it, a chord or a deviation after it.
unfoldable pub tests : Rolled → ℕ
tests p = fails OUT_OF_RANGE (piece_within p) or neutral_test p.dev.neutral or fails ARC_AND_TRACE (not (both p.arc p.trace))

-- ---- what is due
-- `Rolled::at`
unfoldable pub at_due : Rolled → Float → Due Place
at_due p t = passing (fails OUT_OF_RANGE (within t) or tests p) (answered (at_c p t))

-- `Rolled::second`
unfoldable pub second_due : Rolled → Float → Due Vec2
second_due p t = passing (fails OUT_OF_RANGE (within t) or tests p) (answered (do
  r ← run_c p
  second_c r t))

-- `Rolled::reversed`
unfoldable pub reversed_due : Rolled → Due Rolled
reversed_due p = passing (tests p) (due (back p))

-- `Rolled::measure`
unfoldable pub measure_due : Rolled → Due Measure
measure_due p = passing (tests p) (answered (measure_c p))

-- `Rolled::quadrature_pieces`
unfoldable pub quadrature_due : Rolled → Due ℕ
quadrature_due p = passing (tests p) (answered (do
  r ← run_c p
  quadrature_c r))

-- `Rolled::chords`: a chord below 0 is refused; -0 is none
unfoldable pub chords_due : Rolled → Float → Float → Due ℕ
chords_due p radius chord = passing (fails OUT_OF_RANGE (within radius && within chord) or tests p or chord_test chord) (answered (do
  r ← run_c p
  chords_c r radius chord))

-- `Rolled::polyline`: a deviation not above 0 is refused
unfoldable pub polyline_due : Rolled → Float → Due ℕ
polyline_due p deviation = passing (fails OUT_OF_RANGE (within deviation) or tests p or fails BAD_TOLERANCE (lt zero deviation)) (answered (do
  r ← run_c p
  polyline_c r deviation))

-- `Rolled::uv_box`
unfoldable pub uv_box_due : Rolled → Due FlatBox
uv_box_due p = passing (tests p) (answered (do
  r ← run_c p
  box_c r))

-- `Rolled::normal`
unfoldable pub normal_due : Rolled → Vec2 → Float → Due Vec3
normal_due p q r = passing (fails OUT_OF_RANGE (within2 q && within r) or tests p) (answered (normal_c p q r))
