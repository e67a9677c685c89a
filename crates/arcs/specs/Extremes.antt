-- The points by which an arc widens a box: its ends, and those of its circle's extreme points that
-- lie on it. The circle lies across `axis`, around `center`.
use Rattle.std.specs.Prelude.{cond, List, [], ◌∷◌, Float}
use Rattle.std.specs.Float.Ieee.{lt, neg}
use Rattle.checked.specs.Checked.{Checked, ◌>>=◌, given, num, ◌⊗◌, ◌⊘◌}
use Rattle.checked.specs.Numbers.{zero, one}
use Rattle.vectors.specs.declared.Vec3.{Vec3}
use Rattle.vectors.specs.Vectors.{along_x, along_y, along_z, vec, ◌⊞◌, ◌⊠◌}
use Rattle.directions.specs.Directions.{length_c, across_c}
use Rattle.boxes.specs.Boxes.{◌⧺◌}
use Rattle.arcs.specs.Sweep.{sweep_c}

-- the candidate on the side s, 1 or -1, along a vector w of length len
unfoldable pub side_c : Vec3 → Float → Vec3 → Float → Float → Checked Vec3
side_c center radius w len s = vec center ⊞ vec w ⊠ (num s ⊗ num radius ⊘ num len)

-- A candidate is taken where its sweep is less than the arc's, `turn`. sweep: the sweep from the
-- first end to a point.
unfoldable pub taken_c : (Vec3 → Checked Float) → Float → Vec3 → Checked (List Vec3)
taken_c sweep turn p = do
  a ← sweep p
  given (cond (lt a turn) (p ∷ []) [])

-- both candidates are worked out, then their sweeps
unfoldable pub both_c : Vec3 → Float → (Vec3 → Checked Float) → Float → Vec3 → Float → Checked (List Vec3)
both_c center radius sweep turn w len = do
  p ← side_c center radius w len one
  q ← side_c center radius w len (neg one)
  taken_c sweep turn p ⧺ taken_c sweep turn q

-- The circle's points farthest along e and against it lie along what e has across the arc's axis; there are none where
-- that is nothing. It is taken across twice: where e is along the axis but for rounding, what once leaves is noise that
-- does not lie in the circle's plane.
unfoldable pub extremes_c : Vec3 → Vec3 → Float → (Vec3 → Checked Float) → Float → Vec3 → Checked (List Vec3)
extremes_c center axis radius sweep turn e = do
  w ← across_c axis e
  w ← across_c axis w
  len ← length_c w
  cond (lt zero len) (both_c center radius sweep turn w len) (given [])

-- both ends, then the extreme points taken
unfoldable pub points_c : Vec3 → Vec3 → Float → Vec3 → Vec3 → Checked (List Vec3)
points_c center axis radius from to = do
  turn ← sweep_c center axis from to
  given (from ∷ to ∷ [])
      ⧺ extremes_c center axis radius (sweep_c center axis from) turn along_x
      ⧺ extremes_c center axis radius (sweep_c center axis from) turn along_y
      ⧺ extremes_c center axis radius (sweep_c center axis from) turn along_z
