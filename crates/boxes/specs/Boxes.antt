-- Boxes, and what a box call is due to answer.
use Rattle.std.specs.Prelude.{ℕ, Bool, true, false, not, ◌&&◌, ◌≡◌, T, Float}
use mathlib.Core.List.{List, [], ◌∷◌, ◌++◌, Memᴰ}
use Rattle.std.specs.Float.{inf}
use Rattle.std.specs.Float.Ieee.{is_nan}
use Rattle.order.specs.Least.{least, greatest}
use Rattle.vectors.specs.declared.Vec3.{Vec3}
use Rattle.vectors.specs.Vectors.{is_finite3}
use Rattle.checked.specs.Refusals.{BAD_BOX_OR_SUMS}
use Rattle.checked.specs.Checked.{Checked, ◌>>=◌, given, Due, answered}
use Rattle.checked.specs.Tests.{fails, ◌or◌, passing}
use Rattle.boxes.specs.declared.Bounds.{Bounds}

-- a coordinate
pub data Axis : Type 0 where
  X Y Z : Axis

abbrev pub at : Axis → Vec3 → Float
at X v = v.x
at Y v = v.y
at Z v = v.z

-- ---- boxes
-- the lesser, and the greater, of two in each coordinate
unfoldable pub lesser : Vec3 → Vec3 → Vec3
lesser a p = record { x = least a.x p.x; y = least a.y p.y; z = least a.z p.z }

unfoldable pub greater : Vec3 → Vec3 → Vec3
greater a p = record { x = greatest a.x p.x; y = greatest a.y p.y; z = greatest a.z p.z }

-- the box widened by a point
unfoldable pub widened : Bounds → Vec3 → Bounds
widened b p = record { low = lesser b.low p; high = greater b.high p }

-- by one point after the other
unfoldable pub widened_by : Bounds → List Vec3 → Bounds
widened_by b [] = b
widened_by b (p ∷ ps) = widened_by (widened b p) ps

-- by points as they are worked out
abbrev pub widened_c : Bounds → Checked (List Vec3) → Checked Bounds
widened_c b points = record { refusal = points.refusal; value = widened_by b points.value }

-- no NaN among the three
unfoldable pub numbers : Vec3 → Bool
numbers v = not (is_nan v.x) && (not (is_nan v.y) && not (is_nan v.z))

-- no NaN in the box
unfoldable pub free : Bounds → Bool
free b = numbers b.low && numbers b.high

-- the empty box: low corner +∞, high corner −∞
abbrev pub all : Float → Vec3
all a = record { x = a; y = a; z = a }

abbrev pub empty : Bounds
empty = record { low = all (inf false); high = all (inf true) }

-- ---- the points of an edge
-- those of one computation, then those of the other
infixr 5 ◌⧺◌
abbrev pub ◌⧺◌ : Checked (List Vec3) → Checked (List Vec3) → Checked (List Vec3)
◌⧺◌ m n = do
  ps ← m
  qs ← n
  given (ps ++ qs)

-- all are finite
abbrev pub AllFinite : List Vec3 → Type 0
AllFinite ps = (p : Vec3) → Memᴰ p ps → T (is_finite3 p)

-- finite where no refusal was met
abbrev pub Sound : Checked (List Vec3) → Type 0
Sound c = c.refusal ≡ 0 → AllFinite c.value

-- ---- box calls
-- A box call. handed: the number of the test that what was handed in with the edge fails first; points: its ends and extreme points, as they are
-- worked out. The tests come first, then that of the box; then the points are worked out, whatever the box, and widen it.
unfoldable pub box_call : ℕ → Checked (List Vec3) → Bounds → Due Bounds
box_call handed points b =
    passing (handed or fails BAD_BOX_OR_SUMS (free b))
    (answered
    (do
      ps ← points
      given (widened_by b ps)))
