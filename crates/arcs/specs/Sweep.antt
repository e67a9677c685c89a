-- How far a point is turned about an axis: counterclockwise about `axis`, around `center`.
use Rattle.std.specs.Prelude.{Bool, ◌&&◌, Float}
use Rattle.checked.specs.Checked.{Checked, ◌>>=◌, within}
use Rattle.vectors.specs.declared.Vec3.{Vec3}
use Rattle.vectors.specs.Vectors.{within3, vec, ◌⊟◌, ◌⊡◌, ◌⨯◌}
use Rattle.profile_arcs.specs.Angles.{atan2_c, ahead_c}

-- every number of a circle passes the test of what is handed in
unfoldable pub circle_within : Vec3 → Vec3 → Float → Bool
circle_within center axis radius = within3 center && (within3 axis && within radius)

-- a circle, and the two ends of an arc of it
unfoldable pub ends_within : Vec3 → Vec3 → Float → Vec3 → Vec3 → Bool
ends_within center axis radius from to = circle_within center axis radius && (within3 from && within3 to)

-- the angle turned until the direction of p, from a start that lies at u from the centre
unfoldable pub sweep_from_c : Vec3 → Vec3 → Vec3 → Vec3 → Checked Float
sweep_from_c center axis u p = do
  v ← vec p ⊟ vec center
  a ← atan2_c (vec axis ⊡ (vec u ⨯ vec v)) (vec u ⊡ vec v)
  ahead_c a

-- the angle turned from `from` to `to`, in (0, 2π] (`sweep_answer` of crates/arc_theorems)
unfoldable pub sweep_c : Vec3 → Vec3 → Vec3 → Vec3 → Checked Float
sweep_c center axis from to = do
  u ← vec from ⊟ vec center
  sweep_from_c center axis u to
