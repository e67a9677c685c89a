-- `Rolled::meet_box`: all samples first, then the windows between them.
use Rattle.std.specs.Prelude.{ℕ, ◌+◌, Bool, true, false, cond, ◌||◌, eqb}
use Rattle.std.specs.Float.{inf}
use Rattle.checked.specs.Checked.{Checked, ◌>>=◌, given}
use Rattle.vectors.specs.declared.Vec2.{Vec2}
use Rattle.vectors.specs.Vectors.{plane}
use Rattle.checked.specs.Loops.{fold_c}
use Rattle.piece_curves.specs.declared.meet_curves.MeetCurve.{MeetCurve}
use Rattle.piece_curves.specs.MeetCurves.{slope_u_c, slope_v_c, point_c}
use Rattle.piece_boxes.specs.declared.brackets.FlatBox.{FlatBox}
use Rattle.piece_boxes.specs.Brackets.{place_c, widened, bracket_c}

-- the samples, and the windows between them
abbrev pub SAMPLES : ℕ
SAMPLES = 65

abbrev pub WINDOWS : ℕ
WINDOWS = 64

-- the derivatives at place k
unfoldable pub sample_c : MeetCurve → ℕ → Checked Vec2
sample_c c k = do
  t ← place_c k
  x ← slope_u_c c t
  y ← slope_v_c c t
  given (plane x y)

-- the first and the last place
unfoldable pub is_end : ℕ → Bool
is_end k = eqb k 0 || eqb k WINDOWS

-- there the point is read too
unfoldable pub end_c : MeetCurve → ℕ → FlatBox → Checked FlatBox
end_c c k b =
    cond
    (is_end k)
    (do
      t ← place_c k
      p ← point_c c t
      given (widened b p))
    (given b)

-- the place k: its derivatives, and the point where it is an end
unfoldable pub step_c : MeetCurve → ℕ → FlatBox → Checked FlatBox
step_c c k b = do
  d ← sample_c c k
  end_c c k b

-- the infinities from which the box starts
abbrev pub empty : FlatBox
empty = record { low = plane (inf false) (inf false); high = plane (inf true) (inf true) }

-- all samples, and the box of the two ends
unfoldable pub start_c : MeetCurve → Checked FlatBox
start_c c = fold_c SAMPLES (step_c c) empty

-- between the places k and k + 1: where u turns, then where v does
unfoldable pub span_c : MeetCurve → ℕ → FlatBox → Checked FlatBox
span_c c k b = do
  a ← bracket_c c false k (sample_c c k).value.x (sample_c c (k + 1)).value.x b
  bracket_c c true k (sample_c c k).value.y (sample_c c (k + 1)).value.y a

-- a refusal of a sample comes before any of a halving
unfoldable pub box_c : MeetCurve → Checked FlatBox
box_c c = do
  b ← start_c c
  fold_c WINDOWS (span_c c) b
