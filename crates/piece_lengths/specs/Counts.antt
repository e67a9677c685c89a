-- Into how many pieces or chords a piece of a development is cut: `Rolled::quadrature_pieces`,
-- `Rolled::chords`, `Rolled::polyline`.
use Rattle.std.specs.Prelude.{ℕ, Float}
use Rattle.checked.specs.Checked.{Checked, ◌>>=◌, given, num, ◌⊕◌, ◌⊖◌, ◌⊗◌, ◌⊘◌}
use Rattle.checked.specs.Numbers.{literal, float, zero, one, two, tau, quarter_pi}
use Rattle.float_bits.specs.FloatBits.{fabs}
use Rattle.rounding.specs.Computations.{sqrt_c}
use Rattle.libm.specs.Computations.{hypot_c}
use Rattle.order.specs.Least.{greatest}
use Rattle.checked.specs.Loops.{fold_c}
use Rattle.chord_counts.specs.Counts.{MOST, count_c}
use Rattle.chord_counts.specs.Chords.{most, per_turn_c}
use Rattle.vectors.specs.declared.Vec2.{Vec2}
use Rattle.waves.specs.declared.Wave.{Wave}
use Rattle.piece_curves.specs.declared.meet_curves.MeetCurve.{MeetCurve}
use Rattle.piece_curves.specs.declared.CurveKind.{CurveKind}
use Rattle.piece_curves.specs.declared.CurveKind.TheVariants as way
use Rattle.piece_curves.specs.declared.PieceCurve.{PieceCurve}
use Rattle.piece_lengths.specs.SecondDerivatives.{meet_c}
use Rattle.piece_lengths.specs.Measures.{measure_c}

-- ---- at most 45° each, in the development and about the axis
-- At most 45° each, in the development and about the axis: there the rule of Gauss and Legendre with 8 points is exact
-- but for rounding.
unfoldable pub quadrature_c : PieceCurve → Checked ℕ
quadrature_c r = do
  m ← measure_c r
  bend ← num m.length ⊘ num r.ends.neutral
  x ← num (greatest m.turn bend) ⊘ num quarter_pi
  count_c x one MOST

-- ---- chords for drawing at a distance from the axis
-- Of a full turn of the piece's own: an arc takes what its radius asks for. A trace has no radius of its own, so its
-- turn is drawn at the finest.
abbrev pub own_by : CurveKind → Float → Float → Checked Float
own_by way.Straight rho chord = per_turn_c rho chord
own_by (way.Arc a) rho chord = per_turn_c rho chord
own_by (way.Wave w) rho chord = num most
own_by (way.Meet c) rho chord = num most

-- the chords of a full turn of the piece
unfoldable pub own_turn_c : CurveKind → Float → Float → Checked Float
own_turn_c w rho chord = own_by w rho chord

-- the greater of what its own turn asks for and what its way about the axis does
unfoldable pub chords_c : PieceCurve → Float → Float → Checked ℕ
chords_c r radius chord = do
  m ← measure_c r
  own ← num m.turn ⊘ num tau ⊗ own_turn_c r.way m.radius chord
  bend ← num m.length ⊘ num r.ends.neutral ⊘ num tau ⊗ per_turn_c radius chord
  count_c (greatest own bend) one MOST

-- ---- chords of a polyline through the piece in its development, each at most `deviation` off it
-- 8 and 256
abbrev pub EIGHT : Float
EIGHT = literal 0x4020_0000_0000_0000

abbrev pub samples : Float
samples = literal 0x4070_0000_0000_0000

-- a wave's length where it is steepest, over the width du
unfoldable pub steep_c : Float → Float → Float → Checked Float
steep_c du amp n = do
  x ← num amp ⊘ num n
  num (fabs du) ⊗ sqrt_c (num one ⊕ num x ⊗ num x)

-- A chord over a length h is off a curve by at most h²/8 of its greatest second derivative, so a length takes
-- length·√(bend / (8·deviation)) chords. A wave bends at most its amplitude over the neutral radius squared.
unfoldable pub off_c : Float → Float → Float → Float → Checked Float
off_c length amp n deviation = num length ⊗ sqrt_c (num amp ⊘ (num n ⊗ num n) ⊘ (num EIGHT ⊗ num deviation))

-- along a wave
unfoldable pub wave_line_c : Wave → Vec2 → Vec2 → Float → Float → Checked ℕ
wave_line_c w from to n deviation = do
  du ← num to.x ⊖ num from.x
  amp ← hypot_c (num w.b) (num w.c)
  length ← steep_c du amp n
  q ← off_c length amp n deviation
  count_c q two MOST

-- the greater of a bend and that of the sample k
unfoldable pub sample_c : MeetCurve → ℕ → Float → Checked Float
sample_c c k a = do
  t ← num (float k) ⊘ num samples
  d ← meet_c c t
  h ← hypot_c (num d.x) (num d.y)
  given (greatest a h)

-- the second derivatives that a meet is judged by, at every 256th of t
abbrev pub SAMPLES : ℕ
SAMPLES = 257

-- the greatest of them
unfoldable pub bend_c : MeetCurve → Checked Float
bend_c c = fold_c SAMPLES (sample_c c) zero

-- The same over t, from 0 to 1, with the greatest second derivative in t among the samples: √(bend / (8·deviation))
-- chords.
unfoldable pub meet_line_c : MeetCurve → Float → Checked ℕ
meet_line_c c deviation = do
  bend ← bend_c c
  q ← sqrt_c (num bend ⊘ (num EIGHT ⊗ num deviation))
  count_c q two MOST

-- 1 without a trace, at least 2 with one
abbrev pub line_by : CurveKind → PieceCurve → Float → Checked ℕ
line_by way.Straight r deviation = given 1
line_by (way.Arc a) r deviation = given 1
line_by (way.Wave w) r deviation = wave_line_c w r.ends.from r.ends.to r.ends.neutral deviation
line_by (way.Meet c) r deviation = meet_line_c c deviation

-- `Rolled::polyline`
unfoldable pub polyline_c : PieceCurve → Float → Checked ℕ
polyline_c r deviation = line_by r.way r deviation
