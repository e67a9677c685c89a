-- What is integrated over a surface of revolution. At the angle θ and s along the axis the point is
-- x = origin + r(θ)·ρ(s) + axis·s, with ρ(s) = radius + slope·s, and n dA = ρ(s)·(r(θ) −
-- slope·axis) dθ ds.
use Rattle.std.specs.Prelude.{Float}
use Rattle.checked.specs.Checked.{Checked, ◌>>=◌, given, num, ◌⊕◌, ◌⊖◌, ◌⊗◌, ◌⊘◌}
use Rattle.checked.specs.Numbers.{zero, half, one, two, four, six}
use Rattle.vectors.specs.declared.Vec3.{Vec3}
use Rattle.vectors.specs.Vectors.{vec, ◌⊞◌, ◌⊟◌, ◌⊠◌, ◌⊡◌}
use Rattle.rounding.specs.Computations.{sqrt_c}
use Rattle.libm.specs.Sincos.{sincos_c}
use Rattle.cones.specs.declared.Cone.{Cone}
use Rattle.cones.specs.Frames.{frame_c}
use Rattle.integrals.specs.declared.SurfaceIntegrals.{SurfaceIntegrals}
use Rattle.integrals.specs.declared.integrands.Revolved.{Revolved}
use Rattle.integrals.specs.declared.integrands.RadialNormal.{RadialNormal}
use Rattle.integrals.specs.declared.integrands.PathPoint.{PathPoint}

-- what `revolution` works out of its cone before the first path
unfoldable pub revolved_c : Cone → Vec3 → Checked Revolved
revolved_c c o = do
  f ← frame_c c
  p0 ← vec c.origin ⊟ vec o
  stretch ← sqrt_c (num one ⊕ num c.slope ⊗ num c.slope)
  given (record { frame = f; p0 = p0; radius = c.radius; slope = c.slope; stretch = stretch })

-- ---- what is integrated, at the angle θ and s along the axis
-- the direction away from the axis, and the normal: `rv` and `nv`
unfoldable pub radial_normal_c : Revolved → Float → Checked RadialNormal
radial_normal_c v theta = do
  s ← sincos_c theta
  out ← vec v.frame.e1 ⊠ num s.cos ⊞ vec v.frame.e2 ⊠ num s.sin
  normal ← vec out ⊟ vec v.frame.axis ⊠ num v.slope
  given (record { out = out; normal = normal })

-- What is integrated, without the sign of the normal, which the way a face's outline runs in (θ, z) takes care of.
-- `height` is (x − o)·n: twice its integral is six times the volume of the cone from o over the face, and six times
-- that of x·height 24 times the cone's first moment. The cones over all faces of a closed surface add up to the body,
-- whatever each face's shape.
unfoldable pub patch_c : Revolved → RadialNormal → Float → Checked SurfaceIntegrals
patch_c v b s = do
  r ← num v.radius ⊕ num v.slope ⊗ num s
  x ← vec v.p0 ⊞ vec b.out ⊠ num r ⊞ vec v.frame.axis ⊠ num s
  height ← vec v.p0 ⊡ vec b.normal ⊕ num r ⊖ num v.slope ⊗ num s
  m ← vec x ⊠ (num six ⊗ num r ⊗ num height)
  area ← num r ⊗ num v.stretch
  volume ← num two ⊗ num r ⊗ num height
  nx ← num r ⊗ num b.normal.x
  ny ← num r ⊗ num b.normal.y
  nz ← num r ⊗ num b.normal.z
  given (record { six_v = volume; moment = m; area = area; area_vector = record { x = nx; y = ny; z = nz } })

unfoldable pub integrand_c : Revolved → Float → Float → Checked SurfaceIntegrals
integrand_c v theta s = do
  b ← radial_normal_c v theta
  patch_c v b s

-- ---- the step of the sums at a node
-- a sum less w times the four parts of Simpson's mean: the first, four of the middle, the last
unfoldable pub term_c : Float → Float → Float → Float → Float → Checked Float
term_c w s a b c = num s ⊖ num w ⊗ (num a ⊕ num four ⊗ num b ⊕ num c)

unfoldable pub term3_c : Float → Vec3 → Vec3 → Vec3 → Vec3 → Checked Vec3
term3_c w s a b c = do
  x ← term_c w s.x a.x b.x c.x
  y ← term_c w s.y a.y b.y c.y
  z ← term_c w s.z a.z b.z c.z
  given (record { x = x; y = y; z = z })

unfoldable pub terms_c : Float → SurfaceIntegrals → SurfaceIntegrals → SurfaceIntegrals → SurfaceIntegrals → Checked SurfaceIntegrals
terms_c w s a b c = do
  area ← term_c w s.area a.area b.area c.area
  volume ← term_c w s.six_v a.six_v b.six_v c.six_v
  m ← term3_c w s.moment a.moment b.moment c.moment
  n ← term3_c w s.area_vector a.area_vector b.area_vector c.area_vector
  given (record { six_v = volume; moment = m; area = area; area_vector = n })

-- half the panel's length, the node's weight, how fast θ turns, z, and Simpson's sixth
unfoldable pub weight_c : PathPoint → Float → Float → Checked Float
weight_c p h wgt = num half ⊗ num h ⊗ num wgt ⊗ num p.turn ⊗ num p.z ⊘ num six

-- the sums after a node of weight `wgt`, where the path is at p, on a piece of length h
unfoldable pub node_c : Revolved → PathPoint → Float → Float → SurfaceIntegrals → Checked SurfaceIntegrals
node_c v p h wgt s = do
  f0 ← integrand_c v p.theta zero
  middle ← num half ⊗ num p.z
  f1 ← integrand_c v p.theta middle
  f2 ← integrand_c v p.theta p.z
  w ← weight_c p h wgt
  terms_c w s f0 f1 f2
