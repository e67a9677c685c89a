-- The sums over a body's faces.
use Rattle.std.specs.Prelude.{ℕ, Bool, cond, ◌&&◌, Float}
use Rattle.std.specs.Float.Ieee.{lt, neg}
use Rattle.checked.specs.Refusals.{NOT_FINITE}
use Rattle.checked.specs.Checked.{is_finite}
use Rattle.checked.specs.Numbers.{zero, one}
use Rattle.vectors.specs.Vectors.{origin, is_finite3}
use Rattle.integrals.specs.declared.SurfaceIntegrals.{SurfaceIntegrals}
use Rattle.integrals.specs.declared.Integrals.{Integrals}

-- ---- what is integrated over surfaces
-- all eight numbers are finite
unfoldable pub finite_surface : SurfaceIntegrals → Bool
finite_surface s = is_finite s.six_v && (is_finite3 s.moment && (is_finite s.area && is_finite3 s.area_vector))

-- the refusal of sums that are the result
unfoldable pub surface_nine : SurfaceIntegrals → ℕ
surface_nine s = cond (finite_surface s) 0 NOT_FINITE

-- the side that the sign of a dot product tells: 1 above 0, else -1
unfoldable pub side : Float → Float
side d = cond (lt zero d) one (neg one)

-- ---- the sums
-- all their numbers are finite
unfoldable pub finite_sums : Integrals → Bool
finite_sums s = finite_surface s.surface

-- nothing summed yet
abbrev pub nothing : Integrals
nothing = record { surface = record { six_v = zero; moment = origin; area = zero; area_vector = origin } }
