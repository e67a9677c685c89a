-- Points of a circle in space by their angle: counterclockwise about `axis`, around `center`.
use Rattle.std.specs.Prelude.{Bool, ◌&&◌, Float}
use Rattle.checked.specs.Checked.{Checked, ◌>>=◌, given, num, within, ◌⊘◌}
use Rattle.vectors.specs.declared.Vec3.{Vec3}
use Rattle.vectors.specs.Vectors.{within3, vec, ◌⊞◌, ◌⊟◌, ◌⊠◌, ◌⨯◌, cross_c}
use Rattle.directions.specs.Directions.{length_c, across_c}
use Rattle.libm.specs.Sincos.{sincos_c}
use Rattle.rows.specs.declared.circles.Circle.{Circle}
use Rattle.arcs.specs.Sweep.{circle_within}

-- every number of a circle, of a start and of an angle passes the test of what is handed in
unfoldable pub angle_within : Vec3 → Vec3 → Float → Vec3 → Float → Bool
angle_within center axis radius from t = circle_within center axis radius && (within3 from && within t)

-- from the centre to the circle on the side of `from`: across the axis, and `radius` long
unfoldable pub radius_vector_c : Vec3 → Vec3 → Float → Vec3 → Checked Vec3
radius_vector_c center axis radius from = do
  d ← vec from ⊟ vec center
  a ← across_c axis d
  vec a ⊠ (num radius ⊘ length_c a)

-- the circle that starts at the end of the spoke d: its quarter turn is not tried
abbrev pub rim_of : Vec3 → Vec3 → Vec3 → Circle
rim_of center axis d = record { center = center; start = d; quarter = (cross_c axis d).value }

-- the one that starts on the side of `from`
abbrev pub rim_c : Vec3 → Vec3 → Float → Vec3 → Checked Circle
rim_c center axis radius from = do
  d ← radius_vector_c center axis radius from
  given (rim_of center axis d)

-- the point at the end of the spoke d, turned by the angle t about the axis
unfoldable pub turned_c : Vec3 → Vec3 → Vec3 → Float → Checked Vec3
turned_c center axis d t = do
  s ← sincos_c t
  vec center ⊞ vec d ⊠ num s.cos ⊞ vec axis ⨯ vec d ⊠ num s.sin

-- the point at the angle t from `from`
unfoldable pub at_c : Vec3 → Vec3 → Float → Vec3 → Float → Checked Vec3
at_c center axis radius from t = do
  d ← radius_vector_c center axis radius from
  turned_c center axis d t
