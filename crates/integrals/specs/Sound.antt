-- Sums that are finite stay so along a path that meets no refusal.
use Rattle.std.specs.Prelude.{ℕ, ◌≡◌, Float}
use Rattle.std.proofs.Common.{sym, ◌∙◌}
use Rattle.checked.specs.Checked.{Checked}
use Rattle.checked.specs.Laws.{first_none}
use Rattle.libm.specs.Sincos.{sincos_c}
use Rattle.integrals.specs.declared.SurfaceIntegrals.{SurfaceIntegrals}
use Rattle.integrals.specs.Sums.{surface_nine}
use Rattle.integrals.specs.Laws.{Finite, sums_finite, along_sound}
use Rattle.integrals.specs.declared.integrands.Revolved.{Revolved}
use Rattle.integrals.specs.declared.integrands.PathPoint.{PathPoint}
use Rattle.integrals.specs.Integrands.{node_c}
use Rattle.integrals.specs.Along.{node_at_c, path_along_c}
use Rattle.integrals.specs.IntegrandsLaws.{node_refusal}

node_sound : (v : Revolved) (p : PathPoint) (h wgt : Float) (s : SurfaceIntegrals) → (node_c v p h wgt s).refusal ≡ 0 → Finite (node_c v p h wgt s).value
node_sound v p h wgt s e = sums_finite (node_c v p h wgt s).value (first_none (sincos_c p.theta).refusal (surface_nine (node_c v p h wgt s).value) (sym (node_refusal v p h wgt s) ∙ e)).1

module _ (v : Revolved) (path : Float → Checked PathPoint) where
  at_sound : (h wgt t : Float) (s : SurfaceIntegrals) → (node_at_c v path h wgt t s).refusal ≡ 0 → Finite (node_at_c v path h wgt t s).value
  unfolding node_at_c
  at_sound h wgt t s e = node_sound v (path t).value h wgt s (first_none _ _ e).1

  pub path_sound : (n : ℕ) (s : SurfaceIntegrals) → (path_along_c v path n s).refusal ≡ 0 → Finite s → Finite (path_along_c v path n s).value
  path_sound n s e g = along_sound Finite (node_at_c v path) at_sound n s e g
