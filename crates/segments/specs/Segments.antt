-- The correction of a plane face's polygon for an arc from u to v: the slice of the disk between
-- the chord and the arc, added where the arc bulges out of the face and taken away where it bulges
-- in.
use Rattle.std.specs.Prelude.{cond, Float}
use Rattle.std.specs.Float.Ieee.{eq}
use Rattle.checked.specs.Checked.{Checked, ◌>>=◌, given, num, ◌⊕◌, ◌⊖◌, ◌⊗◌, ◌⊘◌}
use Rattle.checked.specs.Numbers.{half, two, three, four, zero}
use Rattle.vectors.specs.declared.Vec3.{Vec3}
use Rattle.vectors.specs.Vectors.{vec, ◌⊞◌, ◌⊟◌, ◌⊠◌, ◌⊡◌}
use Rattle.libm.specs.Sincos.{sin_c}
use Rattle.arcs.specs.declared.Arc.{Arc}
use Rattle.arcs.specs.Sweep.{sweep_c}
use Rattle.arcs.specs.Points.{at_c}
use Rattle.integrals.specs.declared.SurfaceIntegrals.{SurfaceIntegrals}
use Rattle.integrals.specs.declared.Integrals.{Integrals}
use Rattle.integrals.specs.Sums.{side}
use Rattle.segments.specs.declared.Slice.{Slice}

-- the arc as it turns about k
abbrev pub about : Arc → Vec3 → Arc
about arc k = record { center = arc.center; axis = k; radius = arc.radius }

-- the slice's turn φ, φ − sin φ, and its area: r²/2 times that, above 0 where k and n are on one side
unfoldable pub slice_c : Arc → Vec3 → Vec3 → Vec3 → Checked Slice
slice_c turned u v n = do
  phi ← sweep_c turned.center turned.axis u v
  q ← num half ⊗ num turned.radius ⊗ num turned.radius
  rest ← num phi ⊖ sin_c phi
  a ← num q ⊗ num rest
  d ← vec turned.axis ⊡ vec n
  area ← num a ⊗ num (side d)
  given (record { turn = phi; rest = rest; area = area })

-- The slice's centroid lies on the radius to the middle of the arc, 4·r·sin³(φ/2) / (3·(φ − sin φ)) from the centre.
unfoldable pub centroid_c : Arc → Vec3 → Slice → Checked Vec3
centroid_c turned u s = do
  t ← num half ⊗ num s.turn
  p ← at_c turned.center turned.axis turned.radius u t
  mid ← vec p ⊟ vec turned.center
  h ← sin_c t
  vec turned.center ⊞ vec mid ⊠ (num four ⊗ num h ⊗ num h ⊗ num h ⊘ (num three ⊗ num s.rest))

-- the sums with the slice added: of the cone from o over it six times the volume and the moment,
-- and its area vector, but not its area
unfoldable pub added_c : SurfaceIntegrals → Vec3 → Vec3 → Vec3 → Float → Vec3 → Checked SurfaceIntegrals
added_c acc u n o area c = do
  d ← (vec u ⊟ vec o) ⊡ vec n
  six ← num two ⊗ num d ⊗ num area
  sum ← num acc.six_v ⊕ num six
  moment ← vec acc.moment ⊞ (vec c ⊟ vec o) ⊠ (num three ⊗ num six)
  vector ← vec acc.area_vector ⊞ vec n ⊠ num area
  given (record { six_v = sum; moment = moment; area = acc.area; area_vector = vector })

-- a slice that has an area
unfoldable pub bulge_c : Integrals → Arc → Vec3 → Vec3 → Vec3 → Slice → Checked Integrals
bulge_c acc turned u n o s = do
  c ← centroid_c turned u s
  t ← added_c acc.surface u n o s.area c
  given (record { surface = t })

-- a slice whose area is a zero of either sign leaves all sums
unfoldable pub segment_c : Integrals → Arc → Vec3 → Vec3 → Vec3 → Vec3 → Checked Integrals
segment_c acc turned u v n o = do
  s ← slice_c turned u v n
  cond (eq s.area zero) (given acc) (bulge_c acc turned u n o s)
