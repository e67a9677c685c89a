-- Unit vectors: along a vector, and away from an axis.
use Rattle.std.specs.Prelude.{Float}
use Rattle.checked.specs.Refusals.{OUT_OF_RANGE}
use Rattle.checked.specs.Checked.{Checked, ◌>>=◌, num, ◌⊘◌, Due, answered}
use Rattle.checked.specs.Tests.{fails, passing}
use Rattle.checked.specs.Numbers.{one}
use Rattle.rounding.specs.Computations.{sqrt_c}
use Rattle.vectors.specs.declared.Vec3.{Vec3}
use Rattle.vectors.specs.Vectors.{within3, vec, ◌⊟◌, ◌⊠◌, ◌⊡◌}

-- the length of a vector: the root of its product with itself
unfoldable pub length_c : Vec3 → Checked Float
length_c v = sqrt_c (vec v ⊡ vec v)

-- a vector over its length, by the reciprocal: `v * (1.0 / v.dot(v).sqrt())`. The Rust writes it out for a motion's axis and for the start
-- direction of a meet's pipe, which do not pass through `unit`.
unfoldable pub over_length_c : Vec3 → Checked Vec3
over_length_c v = vec v ⊠ (num one ⊘ length_c v)

-- `unit`: the vector of length 1 along v
unfoldable pub unit_c : Vec3 → Checked Vec3
unit_c v = over_length_c v

-- what is left of d across the axis: `d - axis * d.dot(axis)`
unfoldable pub across_c : Vec3 → Vec3 → Checked Vec3
across_c axis d = vec d ⊟ vec axis ⊠ (vec d ⊡ vec axis)

-- the unit vector from the axis through `origin` along `axis` towards p
unfoldable pub radial_c : Vec3 → Vec3 → Vec3 → Checked Vec3
radial_c origin axis p = do
  d ← vec p ⊟ vec origin
  a ← across_c axis d
  unit_c a

-- `unit`, an entry
unfoldable pub unit_due : Vec3 → Due Vec3
unit_due v = passing (fails OUT_OF_RANGE (within3 v)) (answered (unit_c v))
