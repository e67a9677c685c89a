-- A point and a direction, moved together.
use Rattle.checked.specs.Checked.{Checked, ◌>>=◌, given}
use Rattle.vectors.specs.declared.Vec3.{Vec3}
use Rattle.motions.specs.declared.Rigid.{Rigid}
use Rattle.motions.specs.Motions.{apply_c, apply_vector_c}
use Rattle.motions.specs.declared.axes.Axis.{Axis}

-- the point turned and shifted, the direction turned
unfoldable pub moved_c : Rigid → Vec3 → Vec3 → Checked Axis
moved_c m origin along = do
  o ← apply_c m origin
  a ← apply_vector_c m along
  given (record { origin = o; along = a })
