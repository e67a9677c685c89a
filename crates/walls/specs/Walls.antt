-- The integrals of the wall of a cut at one place along it. The wall's own coordinates are (t, r),
-- with n dA = (∂r × ∂t) dt dr.
use Rattle.std.specs.Prelude.{ℕ, ◌/◌, Float}
use Rattle.checked.specs.Checked.{Checked, ◌>>=◌, given, num, ◌⊕◌, ◌⊖◌, ◌⊗◌}
use Rattle.checked.specs.Numbers.{literal, half, two, six}
use Rattle.vectors.specs.declared.Vec2.{Vec2}
use Rattle.vectors.specs.declared.Vec3.{Vec3}
use Rattle.vectors.specs.Vectors.{vec, ◌⊞◌, ◌⊟◌, ◌⊠◌, ◌⊡◌, ◌⨯◌}
use Rattle.checked.specs.Loops.{fold_c}
use Rattle.rounding.specs.Computations.{sqrt_c}
use Rattle.developments.specs.declared.Development.{Development}
use Rattle.developments.specs.Formulas as rolls
use Rattle.integrals.specs.declared.SurfaceIntegrals.{SurfaceIntegrals}
use Rattle.integrals.specs.Gauss.{weight, lies, panel_c}
use Rattle.walls.specs.declared.Strip.{Strip}

-- 0.25
abbrev pub quarter : Float
quarter = literal 0x3fd0_0000_0000_0000

-- what `wall` works out before its loop, but for the length of a panel
unfoldable pub strip_c : Development → Float → Float → Vec3 → Checked Strip
strip_c dev r0 r1 o = do
  hr ← num r1 ⊖ num r0
  mr ← num half ⊗ (num r0 ⊕ num r1)
  base ← vec dev.origin ⊟ vec o
  given (record { dev = dev; base = base; hr = hr; mr = mr })

-- the sums with the patch at x added, whose normal is n
unfoldable pub added_c : Vec3 → Vec3 → SurfaceIntegrals → Checked SurfaceIntegrals
added_c x n s = do
  height ← vec x ⊡ vec n
  volume ← num s.six_v ⊕ num two ⊗ num height
  moment ← vec s.moment ⊞ vec x ⊠ (num six ⊗ num height)
  area ← num s.area ⊕ sqrt_c (vec n ⊡ vec n)
  vector ← vec s.area_vector ⊞ vec n
  given (record { six_v = volume; moment = moment; area = area; area_vector = vector })

-- the normal at r times the area that the node stands for, where `moves` is how the point at r moves
unfoldable pub normal_c : Strip → Vec3 → (Float → Checked Vec3) → Float → Float → Float → Float → Checked Vec3
normal_c v radial moves h wt wr r = vec radial ⨯ moves r ⊠ (num quarter ⊗ num h ⊗ num wt ⊗ num v.hr ⊗ num wr)

-- the sums after the node at r
unfoldable pub patch_c : Strip → Vec2 → Vec3 → (Float → Checked Vec3) → Float → Float → Float → Float → SurfaceIntegrals → Checked SurfaceIntegrals
patch_c v p radial moves h wt wr r s = do
  x ← vec v.base ⊞ vec v.dev.axis ⊠ num p.y ⊞ vec radial ⊠ num r
  n ← normal_c v radial moves h wt wr r
  added_c x n s

-- `Development::along`, which works out the direction away from the axis once more
abbrev pub along_c : Strip → Vec2 → Vec2 → Float → Checked Vec3
along_c v p d r = rolls.along_c v.dev.axis v.dev.start v.dev.neutral p d r

-- the sums after all radii where the piece is at p and moves by d
unfoldable pub node_c : Strip → Vec2 → Vec2 → Float → Float → SurfaceIntegrals → Checked SurfaceIntegrals
node_c v p d h wt s = do
  radial ← rolls.radial_at_c v.dev.axis v.dev.start v.dev.neutral p.x
  panel_c (patch_c v p radial (along_c v p d) h wt) v.hr v.mr s

-- ---- the same with the direction away from the axis at hand, as the code has it
-- how the point at r moves
abbrev pub known_c : Strip → Vec2 → Vec3 → Float → Checked Vec3
known_c v d radial r = rolls.moves_c v.dev.axis v.dev.neutral radial d r

-- the sums after the node k of the radii, counted as they are taken
abbrev pub radius_c : Strip → Vec2 → Vec2 → Vec3 → Float → Float → ℕ → SurfaceIntegrals → Checked SurfaceIntegrals
radius_c v p d radial h wt k a = patch_c v p radial (known_c v d radial) h wt (weight (k / 2)) (lies v.hr v.mr k) a

-- all eight of them
abbrev pub radii_c : Strip → Vec2 → Vec2 → Vec3 → Float → Float → SurfaceIntegrals → Checked SurfaceIntegrals
radii_c v p d radial h wt s = fold_c 8 (radius_c v p d radial h wt) s
