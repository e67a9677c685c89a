-- Rigid motions, as the Rust works them out.
use Rattle.std.specs.Prelude.{ℕ, Bool, ◌&&◌, Float}
use Rattle.checked.specs.Refusals.{OUT_OF_RANGE}
use Rattle.checked.specs.Checked.{Checked, first, ◌>>=◌, given, num, ◌⊕◌, ◌⊖◌, ◌⊗◌, within, Due, due, answered}
use Rattle.checked.specs.Tests.{fails, passing}
use Rattle.checked.specs.Numbers.{one}
use Rattle.libm.specs.Sincos.{sincos_c}
use Rattle.directions.specs.Directions.{over_length_c}
use Rattle.vectors.specs.declared.Vec3.{Vec3}
use Rattle.vectors.specs.Vectors.{origin, space, within3, nines, vec, ◌⊞◌, ◌⊡◌}
use Rattle.motions.specs.declared.Rows.{Rows}
use Rattle.motions.specs.declared.Rigid.{Rigid}

-- all twelve numbers of a motion pass the test of what is handed in
unfoldable pub within_rigid : Rigid → Bool
within_rigid m = within3 m.rot.x && (within3 m.rot.y && (within3 m.rot.z && within3 m.shift))

-- ---- `Rigid::rotation`
-- t * a * a + c
unfoldable pub diagonal_c : Float → Float → Float → Checked Float
diagonal_c t a c = num t ⊗ num a ⊗ num a ⊕ num c

-- t * a * b + s * d
unfoldable pub more_c : Float → Float → Float → Float → Float → Checked Float
more_c t a b s d = num t ⊗ num a ⊗ num b ⊕ num s ⊗ num d

-- t * a * b - s * d
unfoldable pub less_c : Float → Float → Float → Float → Float → Checked Float
less_c t a b s d = num t ⊗ num a ⊗ num b ⊖ num s ⊗ num d

-- three numbers, the first one first
abbrev pub row_c : Checked Float → Checked Float → Checked Float → Checked Vec3
row_c p q r = do
  x ← p
  y ← q
  z ← r
  given (space x y z)

-- the rotation about k by an angle of sine s and cosine c, with t = 1 - c
unfoldable pub rows_c : Vec3 → Float → Float → Float → Checked Rows
rows_c k s c t = do
  x ← row_c (diagonal_c t k.x c) (less_c t k.x k.y s k.z) (more_c t k.x k.z s k.y)
  y ← row_c (more_c t k.x k.y s k.z) (diagonal_c t k.y c) (less_c t k.y k.z s k.x)
  z ← row_c (less_c t k.x k.z s k.y) (more_c t k.y k.z s k.x) (diagonal_c t k.z c)
  given (record { x = x; y = y; z = z })

-- the refusal of rows that the result depends on
unfoldable pub rows_nine : Rows → ℕ
rows_nine m = first (nines m.x) (first (nines m.y) (nines m.z))

-- the rotation by `angle` about `axis` through the origin: the axis is tried before the angle's sine
unfoldable pub rotation_c : Vec3 → Float → Checked Rigid
rotation_c axis angle = do
  k ← over_length_c axis
  a ← sincos_c angle
  t ← num one ⊖ num a.cos
  rot ← rows_c k a.sin a.cos t
  given (record { rot = rot; shift = origin })

unfoldable pub rotation_due : Vec3 → Float → Due Rigid
rotation_due axis angle = passing (fails OUT_OF_RANGE (within3 axis && within angle)) (answered (rotation_c axis angle))

-- ---- `Rigid::frame`: the axes of the frame are the columns
unfoldable pub frame_of : Vec3 → Vec3 → Vec3 → Vec3 → Rigid
frame_of o x y z = record {
  rot = record { x = space x.x y.x z.x; y = space x.y y.y z.y; z = space x.z y.z z.z };
  shift = o;
}

unfoldable pub frame_due : Vec3 → Vec3 → Vec3 → Vec3 → Due Rigid
frame_due o x y z = passing (fails OUT_OF_RANGE (within3 o && (within3 x && (within3 y && within3 z)))) (due (frame_of o x y z))

-- ---- `Rigid::apply_vector` and `Rigid::apply`
unfoldable pub apply_vector_c : Rigid → Vec3 → Checked Vec3
apply_vector_c m v = row_c (vec m.rot.x ⊡ vec v) (vec m.rot.y ⊡ vec v) (vec m.rot.z ⊡ vec v)

-- a point moved: turned, then shifted
unfoldable pub apply_c : Rigid → Vec3 → Checked Vec3
apply_c m p = apply_vector_c m p ⊞ vec m.shift

unfoldable pub apply_vector_due : Rigid → Vec3 → Due Vec3
apply_vector_due m v = passing (fails OUT_OF_RANGE (within_rigid m && within3 v)) (answered (apply_vector_c m v))

unfoldable pub apply_due : Rigid → Vec3 → Due Vec3
apply_due m p = passing (fails OUT_OF_RANGE (within_rigid m && within3 p)) (answered (apply_c m p))
