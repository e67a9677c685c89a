-- The integral along a path, t ↦ (θ, z, dθ/dt) for t from 0 to 1: −∫ P(θ, z) dθ, where P(θ, z) =
-- ∫₀ᶻ f(θ, s) ds.
-- By Green's theorem the integral over a face in the coordinates (θ, z) is one along its outline. An edge along the
-- axis adds nothing, since θ is the same all along it; so only the curves are paths. P is taken by Simpson's rule,
-- exactly, since f is cubic in s at most; along the path what is integrated is smooth, and the rule of Gauss and
-- Legendre on panels of at most 45° is exact but for rounding.
use Rattle.std.specs.Prelude.{ℕ, Float}
use Rattle.checked.specs.Checked.{Checked, ◌>>=◌}
use Rattle.integrals.specs.declared.SurfaceIntegrals.{SurfaceIntegrals}
use Rattle.integrals.specs.Gauss.{along_c}
use Rattle.integrals.specs.declared.integrands.Revolved.{Revolved}
use Rattle.integrals.specs.declared.integrands.PathPoint.{PathPoint}
use Rattle.integrals.specs.Integrands.{node_c}

module _ (v : Revolved) (path : Float → Checked PathPoint) where
  -- the sums after the node at t, of weight `wgt`, on a panel of length h
  unfoldable pub node_at_c : Float → Float → Float → SurfaceIntegrals → Checked SurfaceIntegrals
  node_at_c h wgt t s = do
    p ← path t
    node_c v p h wgt s

  -- `along`: the sums after n panels of the path
  abbrev pub path_along_c : ℕ → SurfaceIntegrals → Checked SurfaceIntegrals
  path_along_c n s = along_c node_at_c n s
