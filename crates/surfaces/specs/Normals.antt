-- Unit normals out of a body on a cylinder and on a cone.
use Rattle.std.specs.Prelude.{Bool, cond, Float}
use Rattle.checked.specs.Checked.{Checked, ◌>>=◌, num}
use Rattle.vectors.specs.declared.Vec3.{Vec3}
use Rattle.vectors.specs.Vectors.{vec, neg_c, ◌⊟◌, ◌⊠◌}
use Rattle.directions.specs.Directions.{unit_c, radial_c}

-- v where the body lies inside (`convex`), else v turned round
unfoldable pub faced_c : Bool → Vec3 → Checked Vec3
faced_c convex v = cond convex (vec v) (neg_c v)

-- a cylinder's normal at p: away from the axis
unfoldable pub cylinder_c : Vec3 → Vec3 → Bool → Vec3 → Checked Vec3
cylinder_c origin axis convex p = do
  r ← radial_c origin axis p
  faced_c convex r

-- a cone's normal at p: away from the axis, tilted back along it by the slope
unfoldable pub cone_c : Vec3 → Vec3 → Float → Bool → Vec3 → Checked Vec3
cone_c origin axis slope convex p = do
  r ← radial_c origin axis p
  t ← vec r ⊟ vec axis ⊠ num slope
  n ← unit_c t
  faced_c convex n
