-- `Wave::range`: the least and the greatest v of a wave between two places.
use Rattle.std.specs.Prelude.{ℕ, Bool, Float}
use Rattle.std.specs.Float.Ieee.{le}
use Rattle.checked.specs.Refusals.{COUNT_TOO_LARGE}
use Rattle.checked.specs.Checked.{Checked, ◌>>=◌, given, finite, num, ◌⊕◌, ◌⊖◌, ◌⊗◌, ◌⊘◌}
use Rattle.checked.specs.Numbers.{one, pi}
use Rattle.libm.specs.Atan2.{atan2}
use Rattle.order.specs.Least.{least, greatest}
use Rattle.rounding.specs.Computations.{ceil_c}
use Rattle.checked.specs.Loops.{while_c}
use Rattle.waves.specs.Values.{v_c}
use Rattle.waves.specs.declared.Wave.{Wave}
use Rattle.waves.specs.declared.turning_points.Span.{Span}
use Rattle.waves.specs.declared.turning_points.Turning.{Turning}
use Rattle.waves.specs.declared.turning_points.RangeSoFar.{RangeSoFar}

-- A wave turns where its derivative, (c·cos − b·sin) / n, is 0, so where tan(u/n) = c/b: at n times the angle of (b,
-- c), and at every half turn, π·n, from there.
unfoldable pub turning_c : Wave → Float → Float → Checked Turning
turning_c w n hi = do
  first' ← finite (atan2 w.c w.b) ⊗ num n
  half ← num pi ⊗ num n
  given (record { wave = w; n = n; hi = hi; first = first'; half = half })

-- the number of the first one not before `lo`
unfoldable pub start_c : Turning → Float → Checked Float
start_c t lo = ceil_c ((num lo ⊖ num t.first) ⊘ num t.half)

-- where the k-th one is
abbrev pub spot_c : Turning → Float → Checked Float
spot_c t k = num t.first ⊕ num k ⊗ num t.half

-- the next one is not past the end
unfoldable pub inside_c : Turning → RangeSoFar → Checked Bool
inside_c t s = do
  p ← spot_c t s.k
  given (le p t.hi)

-- it is taken, and the one after it is next
unfoldable pub taken_c : Turning → RangeSoFar → Checked RangeSoFar
taken_c t s = do
  p ← spot_c t s.k
  v ← v_c t.wave.a t.wave.b t.wave.c p t.n
  k ← num s.k ⊕ num one
  given (record { k = k; low = least s.low v; high = greatest s.high v })

-- how many are taken at most
abbrev pub TURNING_POINTS : ℕ
TURNING_POINTS = 4096

-- the turning points from the k-th on; one more than may be taken is refused where it is inside, not before
unfoldable pub turns_c : Turning → Float → Float → Float → Checked Span
turns_c t k low high = do
  s ← while_c COUNT_TOO_LARGE TURNING_POINTS (inside_c t) (taken_c t) (record { k = k; low = low; high = high })
  given (record { low = s.low; high = s.high })

-- the ends first, then the turning points between them
unfoldable pub range_c : Float → Float → Float → Float → Float → Float → Checked Span
range_c a b c u0 u1 n = do
  x ← v_c a b c (least u0 u1) n
  y ← v_c a b c (greatest u0 u1) n
  t ← turning_c (record { a = a; b = b; c = c }) n (greatest u0 u1)
  k ← start_c t (least u0 u1)
  turns_c t k (least x y) (greatest x y)
