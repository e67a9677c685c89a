-- Coordinates across the axis of a surface of revolution: at the angle θ the direction is e1·cos θ
-- + e2·sin θ, and e2 = axis × e1.
use Rattle.std.specs.Prelude.{cond, ltb, Float}
use Rattle.checked.specs.Checked.{Checked, ◌>>=◌, given, num}
use Rattle.float_bits.specs.FloatBits.{size}
use Rattle.vectors.specs.declared.Vec3.{Vec3}
use Rattle.vectors.specs.Vectors.{along_x, along_y, along_z, vec, ◌⊞◌, ◌⊟◌, ◌⊠◌, ◌⊡◌, ◌⨯◌}
use Rattle.directions.specs.Directions.{across_c, unit_c}
use Rattle.profile_arcs.specs.Angles.{atan2_c}
use Rattle.libm.specs.Sincos.{sincos_c}
use Rattle.cones.specs.declared.Cone.{Cone}
use Rattle.cones.specs.declared.Frame.{Frame}

-- `min_by` over the three directions, whose cosines are x, y and z: the one before, unless it is
-- greater than the next. `total_cmp` of numbers without their signs is the order of their patterns.
unfoldable pub least_axis : Float → Float → Float → Vec3
least_axis x y z =
    cond (ltb (size y) (size x)) (cond (ltb (size z) (size y)) along_z along_y)
    (cond (ltb (size z) (size x)) along_z along_x)

-- `frame`: e1 lies across the axis, on the side of the coordinate axis that is the farthest from it, of which the most
-- is left there.
unfoldable pub frame_c : Cone → Checked Frame
frame_c c = do
  x ← vec along_x ⊡ vec c.axis
  y ← vec along_y ⊡ vec c.axis
  z ← vec along_z ⊡ vec c.axis
  w ← across_c c.axis (least_axis x y z)
  e1 ← unit_c w
  e2 ← vec c.axis ⨯ vec e1
  given (record { axis = c.axis; origin = c.origin; e1 = e1; e2 = e2 })

-- `Frame::angle`
unfoldable pub angle_c : Frame → Vec3 → Checked Float
angle_c f p = do
  w ← vec p ⊟ vec f.origin
  atan2_c (vec w ⊡ vec f.e2) (vec w ⊡ vec f.e1)

-- `Frame::point`
unfoldable pub point_c : Frame → Float → Float → Float → Checked Vec3
point_c f theta z r = do
  s ← sincos_c theta
  vec f.origin ⊞ vec f.axis ⊠ num z ⊞ (vec f.e1 ⊠ num s.cos ⊞ vec f.e2 ⊠ num s.sin) ⊠ num r
