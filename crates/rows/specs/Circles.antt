-- Points of a circle at even angles. What is said of an arc's points is brought back to this.
use Rattle.std.specs.Prelude.{ℕ, Float}
use Rattle.checked.specs.Numbers.{float}
use Rattle.checked.specs.Checked.{Checked, ◌>>=◌, num, ◌⊗◌, ◌⊘◌}
use Rattle.vectors.specs.declared.Vec3.{Vec3}
use Rattle.vectors.specs.Vectors.{vec, ◌⊞◌, ◌⊠◌}
use Rattle.libm.specs.Sincos.{sincos_c}
use Rattle.rows.specs.declared.circles.Circle.{Circle}

-- the point at the angle t from the start
unfoldable pub circle_c : Circle → Float → Checked Vec3
circle_c rim t = do
  s ← sincos_c t
  vec rim.center ⊞ vec rim.start ⊠ num s.cos ⊞ vec rim.quarter ⊠ num s.sin

-- the point k of n on a turn
unfoldable pub circle_at_c : Circle → Float → ℕ → ℕ → Checked Vec3
circle_at_c rim turn n k = do
  t ← num turn ⊗ num (float k) ⊘ num (float n)
  circle_c rim t
