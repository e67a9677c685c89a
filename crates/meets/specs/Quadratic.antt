-- A pipe's generatrices and the cylinder that they meet: `Meet::point`, cut where a number is used more than once.
use Rattle.std.specs.Prelude.{cond, Float}
use Rattle.std.specs.Float.Ieee.{le}
use Rattle.checked.specs.Checked.{Checked, ◌>>=◌, given, num, minus, ◌⊕◌, ◌⊖◌, ◌⊗◌, ◌⊘◌}
use Rattle.checked.specs.Numbers.{zero}
use Rattle.libm.specs.Sincos.{sincos_c}
use Rattle.directions.specs.Directions.{over_length_c, across_c}
use Rattle.rounding.specs.Computations.{sqrt_c}
use Rattle.vectors.specs.declared.Vec3.{Vec3}
use Rattle.vectors.specs.Vectors.{origin, along_x, along_y, along_z, vec, ◌⊞◌, ◌⊟◌, ◌⊠◌, ◌⊡◌, ◌⨯◌}
use Rattle.meets.specs.declared.quadratic.Pipe.{Pipe}
use Rattle.meets.specs.declared.quadratic.Quadratic.{Quadratic}
use Rattle.meets.specs.declared.quadratic.Intersection.{Intersection}

-- ---- the pipe and the cylinder met
-- without `turn` the pipe is the development's own
unfoldable pub own_c : Vec3 → Vec3 → Float → Float → Float → Checked Pipe
own_c o axis radius own n = do
  a ← vec along_z ⊠ num own
  given (record { o = origin; a = a; e1 = along_x; e2 = along_y; r = n; mo = o; ma = axis; mr = radius })

-- with it, the other one
unfoldable pub other_c : Vec3 → Vec3 → Float → Float → Checked Pipe
other_c o axis radius own = do
  e ← vec along_z ⨯ vec axis
  e1 ← over_length_c e
  e2 ← vec axis ⨯ vec e1
  given (record { o = o; a = axis; e1 = e1; e2 = e2; r = radius; mo = origin; ma = along_z; mr = own })

-- ---- along the generatrix
-- The generatrix p₀ + t·a lies on the cylinder met where what it has across that cylinder's axis, w + t·af, is as long
-- as its radius R: |w + t·af|² = R². That is A·t² + 2B·t + C = 0 with A = af·af, B = w·af, C = w·w − R², and `root` is
-- the square root of B² − A-as-C.
abbrev pub quadratic_c : Vec3 → Vec3 → Float → Checked Quadratic
quadratic_c w af mr = do
  aa ← vec af ⊡ vec af
  b ← vec w ⊡ vec af
  cc ← vec w ⊡ vec w ⊖ num mr ⊗ num mr
  root ← sqrt_c (num b ⊗ num b ⊖ num aa ⊗ num cc)
  given (record { aa = aa; b = b; cc = cc; root = root })

-- The lesser of (−B ± root) / A. Where B is above 0 it is −(B + root) / A; else it is C / (root − B), since the two
-- roots multiply to C / A: so no two numbers of nearly one size are subtracted.
unfoldable pub lesser_c : Quadratic → Checked Float
lesser_c q =
    cond
    (le q.b zero)
    (num q.cc ⊘ (num q.root ⊖ num q.b))
    (minus (num q.b ⊕ num q.root) ⊘ num q.aa)

-- the generatrix at phi, up to the cylinder met
unfoldable pub intersection_c : Pipe → Float → Checked Intersection
intersection_c p phi = do
  x ← sincos_c phi
  around ← vec p.e1 ⊠ num x.cos ⊞ vec p.e2 ⊠ num x.sin
  p0 ← vec p.o ⊞ vec around ⊠ num p.r
  d ← vec p0 ⊟ vec p.mo
  w ← across_c p.ma d
  af ← across_c p.ma p.a
  q ← quadratic_c w af p.mr
  t ← lesser_c q
  given (record { s = x.sin; c = x.cos; around = around; p0 = p0; w = w; af = af; aa = q.aa; root = q.root; t = t })
