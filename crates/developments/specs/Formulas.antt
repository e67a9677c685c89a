-- A rolled sheet: from its development to space and back.
use Rattle.std.specs.Prelude.{Float}
use Rattle.checked.specs.Checked.{Checked, ◌>>=◌, given, num, ◌⊕◌, ◌⊖◌, ◌⊗◌, ◌⊘◌}
use Rattle.checked.specs.Numbers.{tau}
use Rattle.profile_arcs.specs.Angles.{atan2_c}
use Rattle.libm.specs.Sincos.{sincos_c}
use Rattle.rounding.specs.Computations.{sqrt_c, round_c}
use Rattle.vectors.specs.declared.Vec2.{Vec2}
use Rattle.vectors.specs.declared.Vec3.{Vec3}
use Rattle.vectors.specs.Vectors.{plane, vec, ◌⊞◌, ◌⊟◌, ◌⊠◌, ◌⊡◌, ◌⨯◌}
use Rattle.developments.specs.declared.formulas.Unrolled.{Unrolled}

-- the unit vector away from the axis at u
unfoldable pub radial_at_c : Vec3 → Vec3 → Float → Float → Checked Vec3
radial_at_c axis start neutral u = do
  q ← num u ⊘ num neutral
  t ← sincos_c q
  vec start ⊠ num t.cos ⊞ vec axis ⨯ vec start ⊠ num t.sin

-- the point of p at r from the axis
unfoldable pub point_c : Vec3 → Vec3 → Vec3 → Float → Vec2 → Float → Checked Vec3
point_c o axis start neutral p r = vec o ⊞ vec axis ⊠ num p.y ⊞ radial_at_c axis start neutral p.x ⊠ num r

-- how the point at r moves along d, where the unit vector away from the axis is at hand
abbrev pub moves_c : Vec3 → Float → Vec3 → Vec2 → Float → Checked Vec3
moves_c axis neutral away d r = vec axis ⨯ vec away ⊠ (num d.x ⊗ num r ⊘ num neutral) ⊞ vec axis ⊠ num d.y

-- how that point moves at p along d
unfoldable pub along_c : Vec3 → Vec3 → Float → Vec2 → Vec2 → Float → Checked Vec3
along_c axis start neutral p d r = vec axis ⨯ radial_at_c axis start neutral p.x ⊠ (num d.x ⊗ num r ⊘ num neutral) ⊞ vec axis ⊠ num d.y

-- the coordinates of q and its distance from the axis, u within half a turn of `near`
unfoldable pub unroll_c : Vec3 → Vec3 → Vec3 → Float → Vec3 → Float → Checked Unrolled
unroll_c o axis start neutral q near = do
  w ← vec q ⊟ vec o
  v ← vec w ⊡ vec axis
  across ← vec w ⊟ vec axis ⊠ num v
  u ← num neutral ⊗ atan2_c (vec across ⊡ (vec axis ⨯ vec start)) (vec across ⊡ vec start)
  turn ← num neutral ⊗ num tau
  at ← num u ⊕ num turn ⊗ round_c ((num near ⊖ num u) ⊘ num turn)
  r ← sqrt_c (vec across ⊡ vec across)
  given (record { p = plane at v; r = r })
