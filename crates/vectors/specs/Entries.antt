-- What the entries on vectors are due to answer: the numbers handed in are tried, then the formula is worked out.
use Rattle.std.specs.Prelude.{ℕ, cond, ◌&&◌, List, [], ◌∷◌, Float}
use Rattle.std.specs.Float.Ieee.{le}
use Rattle.checked.specs.Refusals.{OUT_OF_RANGE}
use Rattle.checked.specs.Checked.{within, Due, due, answered}
use Rattle.checked.specs.Tests.{fails, passing}
use Rattle.vectors.specs.Vectors.{within3, plus_c, minus_c, times_c, neg_c, cross_c, dot_c}
use Rattle.vectors.specs.declared.Vec3.{Vec3}
use Rattle.float_bits.specs.FloatBits.{fabs}

-- ---- what is due
-- `Vec3::dot`
unfoldable pub dot_due : Vec3 → Vec3 → Due Float
dot_due a b = passing (fails OUT_OF_RANGE (within3 a && within3 b)) (answered (dot_c a b))

-- `Vec3::cross`
unfoldable pub cross_due : Vec3 → Vec3 → Due Vec3
cross_due a b = passing (fails OUT_OF_RANGE (within3 a && within3 b)) (answered (cross_c a b))

-- `a + b`, `a - b`, `-a` and `a * k`
unfoldable pub sum_due : Vec3 → Vec3 → Due Vec3
sum_due a b = passing (fails OUT_OF_RANGE (within3 a && within3 b)) (answered (plus_c a b))

unfoldable pub difference_due : Vec3 → Vec3 → Due Vec3
difference_due a b = passing (fails OUT_OF_RANGE (within3 a && within3 b)) (answered (minus_c a b))

unfoldable pub negation_due : Vec3 → Due Vec3
negation_due a = passing (fails OUT_OF_RANGE (within3 a)) (answered (neg_c a))

unfoldable pub times_due : Vec3 → Float → Due Vec3
times_due a k = passing (fails OUT_OF_RANGE (within3 a && within k)) (answered (times_c a k))

-- `Vec3::to_array`
unfoldable pub to_array_due : Vec3 → Due (List Float)
to_array_due a = passing (fails OUT_OF_RANGE (within3 a)) (due (a.x ∷ a.y ∷ a.z ∷ []))

-- which of three numbers is the largest, the first one of equals: 0, 1 or 2
unfoldable pub largest : Float → Float → Float → ℕ
largest x y z = cond (le y x && le z x) 0 (cond (le z y) 1 2)

-- `Vec3::dominant_axis`: of the magnitudes
unfoldable pub dominant_axis_due : Vec3 → Due ℕ
dominant_axis_due a = passing (fails OUT_OF_RANGE (within3 a)) (due (largest (fabs a.x) (fabs a.y) (fabs a.z)))
