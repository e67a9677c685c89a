-- Closing a face: what its running sums add to the sums of a body.
use Rattle.std.specs.Prelude.{Bool, cond, ◌&&◌, Float}
use Rattle.std.specs.Float.Ieee.{neg}
use Rattle.checked.specs.Refusals.{OUT_OF_RANGE, BAD_BOX_OR_SUMS}
use Rattle.checked.specs.Checked.{Checked, ◌>>=◌, given, num, ◌⊕◌, ◌⊗◌, Due, answered}
use Rattle.checked.specs.Tests.{fails, ◌or◌, passing}
use Rattle.checked.specs.Numbers.{one}
use Rattle.vectors.specs.Vectors.{vec, ◌⊞◌}
use Rattle.cones.specs.declared.Cone.{Cone}
use Rattle.cones.specs.Entries.{cone_within}
use Rattle.integrals.specs.declared.Integrals.{Integrals}
use Rattle.integrals.specs.Sums.{finite_sums}

-- the sign of a face's area: 1 where the body lies inside, else -1
unfoldable pub sigma : Bool → Float
sigma convex = cond convex one (neg one)

-- what is added to the sums of a body
unfoldable pub close_c : Integrals → Bool → Integrals → Checked Integrals
close_c acc convex s = do
  area ← num acc.surface.area ⊕ num (sigma convex) ⊗ num s.surface.area
  volume ← num acc.surface.six_v ⊕ num s.surface.six_v
  moment ← vec acc.surface.moment ⊞ vec s.surface.moment
  vector ← vec acc.surface.area_vector ⊞ vec s.surface.area_vector
  given (record { surface = record { six_v = volume; moment = moment; area = area; area_vector = vector } })

-- what closing is due: the cone is tried, then both sums
unfoldable pub close_due : Cone → Integrals → Integrals → Due Integrals
close_due cone s acc =
    passing (fails OUT_OF_RANGE (cone_within cone) or fails BAD_BOX_OR_SUMS (finite_sums acc && finite_sums s))
    (answered (close_c acc cone.convex s))
