-- The point where a generatrix meets the cylinder, and its derivatives in the angle. What a call reads is what it binds.
use Rattle.std.specs.Prelude.{Float}
use Rattle.checked.specs.Checked.{Checked, ◌>>=◌, given, num, minus, ◌⊕◌, ◌⊗◌, ◌⊘◌}
use Rattle.checked.specs.Numbers.{half, two}
use Rattle.directions.specs.Directions.{across_c}
use Rattle.vectors.specs.declared.Vec3.{Vec3}
use Rattle.vectors.specs.Vectors.{vec, ◌⊞◌, ◌⊟◌, ◌⊠◌, ◌⊡◌}
use Rattle.meets.specs.declared.quadratic.Pipe.{Pipe}
use Rattle.meets.specs.declared.quadratic.Intersection.{Intersection}
use Rattle.meets.specs.Quadratic.{intersection_c}
use Rattle.meets.specs.declared.generatrix.FirstDerivatives.{FirstDerivatives}
use Rattle.meets.specs.declared.generatrix.SecondDerivatives.{SecondDerivatives}
use Rattle.meets.specs.declared.generatrix.Jet.{Jet}

-- ---- what the derivatives share
-- The quadratic holds at every angle. Its derivative there is 2(A·t + B)·t' + 2B'·t + C' = 0, and A·t + B is −root at
-- the lesser root, so t' = (B'·t + C'/2) / root.
unfoldable pub first_derivatives_c : Pipe → Intersection → Checked FirstDerivatives
first_derivatives_c p h = do
  d1 ← (vec p.e2 ⊠ num h.c ⊟ vec p.e1 ⊠ num h.s) ⊠ num p.r
  w1 ← across_c p.ma d1
  b1 ← vec w1 ⊡ vec h.af
  c1 ← num two ⊗ (vec h.w ⊡ vec w1)
  t1 ← (num b1 ⊗ num h.t ⊕ num half ⊗ num c1) ⊘ num h.root
  given (record { d1 = d1; w1 = w1; b1 = b1; t1 = t1 })

-- and once more: t'' = (B''·t + 2B'·t' + A·t'² + C''/2) / root
unfoldable pub second_derivatives_c : Pipe → Intersection → FirstDerivatives → Checked SecondDerivatives
second_derivatives_c p h v = do
  d2 ← vec h.around ⊠ minus (num p.r)
  w2 ← across_c p.ma d2
  b2 ← vec w2 ⊡ vec h.af
  c2 ← num two ⊗ (vec v.w1 ⊡ vec v.w1 ⊕ vec h.w ⊡ vec w2)
  t2 ← (num b2 ⊗ num h.t ⊕ num two ⊗ num v.b1 ⊗ num v.t1 ⊕ num h.aa ⊗ num v.t1 ⊗ num v.t1 ⊕ num half ⊗ num c2) ⊘ num h.root
  given (record { d2 = d2; t2 = t2 })

-- p + a·t
unfoldable pub along_generatrix_c : Vec3 → Vec3 → Float → Checked Vec3
along_generatrix_c p a t = vec p ⊞ vec a ⊠ num t

-- ---- what is read of `Meet::point`
-- the point's z alone,
unfoldable pub height_c : Pipe → Float → Checked Float
height_c p phi = do
  h ← intersection_c p phi
  num h.p0.z ⊕ num p.a.z ⊗ num h.t

-- the point,
unfoldable pub point_c : Pipe → Float → Checked Vec3
point_c p phi = do
  h ← intersection_c p phi
  along_generatrix_c h.p0 p.a h.t

-- the point and its two derivatives
unfoldable pub derivatives_c : Pipe → Float → Checked Jet
derivatives_c p phi = do
  h ← intersection_c p phi
  v ← first_derivatives_c p h
  e ← second_derivatives_c p h v
  q ← along_generatrix_c h.p0 p.a h.t
  q1 ← along_generatrix_c v.d1 p.a v.t1
  q2 ← along_generatrix_c e.d2 p.a e.t2
  given (record { q = q; q1 = q1; q2 = q2 })
