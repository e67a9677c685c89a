-- Where a piece that follows a meet turns between two samples (`Rolled::meet_box`).
use Rattle.std.specs.Prelude.{ℕ, ◌+◌, Bool, cond, not, Float}
use Rattle.std.specs.Float.Ieee.{lt, le}
use Rattle.checked.specs.Checked.{Checked, ◌>>=◌, given, num, ◌⊕◌, ◌⊗◌, ◌⊘◌}
use Rattle.checked.specs.Numbers.{literal, float, zero, half}
use Rattle.order.specs.Least.{least, greatest}
use Rattle.vectors.specs.declared.Vec2.{Vec2}
use Rattle.vectors.specs.Vectors.{plane}
use Rattle.checked.specs.Loops.{fold_c}
use Rattle.piece_curves.specs.declared.meet_curves.MeetCurve.{MeetCurve}
use Rattle.piece_curves.specs.MeetCurves.{slope_u_c, slope_v_c, point_c}
use Rattle.piece_boxes.specs.declared.brackets.Bracket.{Bracket}
use Rattle.piece_boxes.specs.declared.brackets.FlatBox.{FlatBox}

-- 64, one fewer than the samples
abbrev pub intervals : Float
intervals = literal 0x4050_0000_0000_0000

-- where the sample k is
abbrev pub place_c : ℕ → Checked Float
place_c k = num (float k) ⊘ num intervals

-- the derivative at t of v where `upright`, else of u
unfoldable pub derivative_c : MeetCurve → Bool → Float → Checked Float
derivative_c c upright t = cond upright (slope_v_c c t) (slope_u_c c t)

-- two tests have the same outcome
unfoldable pub agree : Bool → Bool → Bool
agree p q = cond q p (not p)

-- ---- halvings
-- of each gap in which a derivative changes sign
abbrev pub HALVINGS : ℕ
HALVINGS = 60

-- the half of a gap up to m, or from there on, by the derivative at m
unfoldable pub chosen : Bracket → Float → Float → Bool → Bracket
chosen g m d rising = cond (agree (lt zero d) rising) (record { lo = g.lo; hi = m }) (record { lo = m; hi = g.hi })

-- the half of a gap in which the derivative changes sign, from above 0 where not `rising`
unfoldable pub bisect_c : MeetCurve → Bool → Bool → Bracket → Checked Bracket
bisect_c c upright rising g = do
  m ← num half ⊗ (num g.lo ⊕ num g.hi)
  d ← derivative_c c upright m
  given (chosen g m d rising)

-- sixty halvings
unfoldable pub bisected_c : MeetCurve → Bool → Bool → Bracket → Checked Bracket
bisected_c c upright rising g = fold_c HALVINGS (λ i a. bisect_c c upright rising a) g

-- the point in the middle of what is left
unfoldable pub turning_c : MeetCurve → Bool → Bool → Bracket → Checked Vec2
turning_c c upright rising g = do
  h ← bisected_c c upright rising g
  m ← num half ⊗ (num h.lo ⊕ num h.hi)
  point_c c m

-- ---- the box
unfoldable pub widened : FlatBox → Vec2 → FlatBox
widened b p = record {
  low = plane (least b.low.x p.x) (least b.low.y p.y);
  high = plane (greatest b.high.x p.x) (greatest b.high.y p.y);
}

-- A coordinate turns between two samples where its derivative differs in sign there: the box with the point where it
-- does. 60 halvings of a 64th leave a gap that no f64 of t near 1 tells from a point.
unfoldable pub bracket_c : MeetCurve → Bool → ℕ → Float → Float → FlatBox → Checked FlatBox
bracket_c c upright k d0 d1 b =
    cond
    (agree (lt zero d0) (lt zero d1))
    (given b)
    (do
      lo ← place_c k
      hi ← place_c (k + 1)
      p ← turning_c c upright (le d0 zero) (record { lo = lo; hi = hi })
      given (widened b p))
