-- Vectors, their operations as the Rust writes them, and what is tried of them.
use Rattle.std.specs.Prelude.{ℕ, Bool, ◌&&◌, cond, Float}
use Rattle.std.specs.Float.Ieee.{neg}
use Rattle.vectors.specs.declared.Vec2.{Vec2}
use Rattle.vectors.specs.declared.Vec3.{Vec3}
use Rattle.checked.specs.Refusals.{NOT_FINITE}
use Rattle.checked.specs.Numbers.{zero, one}
use Rattle.checked.specs.Checked.{Checked, ◌>>=◌, given, is_finite, within, finite, num, ◌⊕◌, ◌⊖◌, ◌⊗◌}

-- all three numbers are finite
unfoldable pub is_finite3 : Vec3 → Bool
is_finite3 v = is_finite v.x && (is_finite v.y && is_finite v.z)

-- the refusal of a vector that the result depends on
unfoldable pub nines : Vec3 → ℕ
nines v = cond (is_finite3 v) 0 NOT_FINITE

-- all numbers of a vector pass the test of what is handed in
unfoldable pub within2 : Vec2 → Bool
within2 v = within v.x && within v.y

-- the same of one in space
unfoldable pub within3 : Vec3 → Bool
within3 v = within v.x && (within v.y && within v.z)

-- the vector of its numbers
abbrev pub plane : Float → Float → Vec2
plane x y = record { x = x; y = y }

-- the same in space
abbrev pub space : Float → Float → Float → Vec3
space x y z = record { x = x; y = y; z = z }

-- the zero vector
abbrev pub origin : Vec3
origin = record { x = zero; y = zero; z = zero }

-- the directions of the coordinates
abbrev pub along_x : Vec3
along_x = space one zero zero

abbrev pub along_y : Vec3
along_y = space zero one zero

abbrev pub along_z : Vec3
along_z = space zero zero one

-- the sum
unfoldable pub plus_c : Vec3 → Vec3 → Checked Vec3
plus_c a b = do
  x ← num a.x ⊕ num b.x
  y ← num a.y ⊕ num b.y
  z ← num a.z ⊕ num b.z
  given (record { x = x; y = y; z = z })

-- the difference
unfoldable pub minus_c : Vec3 → Vec3 → Checked Vec3
minus_c a b = do
  x ← num a.x ⊖ num b.x
  y ← num a.y ⊖ num b.y
  z ← num a.z ⊖ num b.z
  given (record { x = x; y = y; z = z })

-- the product with a number
unfoldable pub times_c : Vec3 → Float → Checked Vec3
times_c v k = do
  x ← num v.x ⊗ num k
  y ← num v.y ⊗ num k
  z ← num v.z ⊗ num k
  given (record { x = x; y = y; z = z })

-- the vector turned round
unfoldable pub neg_c : Vec3 → Checked Vec3
neg_c v = do
  x ← finite (neg v.x)
  y ← finite (neg v.y)
  z ← finite (neg v.z)
  given (record { x = x; y = y; z = z })

-- the cross product
unfoldable pub cross_c : Vec3 → Vec3 → Checked Vec3
cross_c a b = do
  x ← num a.y ⊗ num b.z ⊖ num a.z ⊗ num b.y
  y ← num a.z ⊗ num b.x ⊖ num a.x ⊗ num b.z
  z ← num a.x ⊗ num b.y ⊖ num a.y ⊗ num b.x
  given (record { x = x; y = y; z = z })

-- the dot product, added from left to right
unfoldable pub dot_c : Vec3 → Vec3 → Checked Float
dot_c a b = num a.x ⊗ num b.x ⊕ num a.y ⊗ num b.y ⊕ num a.z ⊗ num b.z

-- The operations over computations, the left one first: sum, difference, product with a number, dot and cross product.
abbrev pub vec : Vec3 → Checked Vec3
vec v = given v

infixl 6 ◌⊞◌ ◌⊟◌
infixl 7 ◌⊠◌ ◌⊡◌ ◌⨯◌
-- the sum
abbrev pub ◌⊞◌ : Checked Vec3 → Checked Vec3 → Checked Vec3
◌⊞◌ m n = do
  a ← m
  b ← n
  plus_c a b

-- the difference
abbrev pub ◌⊟◌ : Checked Vec3 → Checked Vec3 → Checked Vec3
◌⊟◌ m n = do
  a ← m
  b ← n
  minus_c a b

-- the product with a number
abbrev pub ◌⊠◌ : Checked Vec3 → Checked Float → Checked Vec3
◌⊠◌ m n = do
  v ← m
  k ← n
  times_c v k

-- the dot product
abbrev pub ◌⊡◌ : Checked Vec3 → Checked Vec3 → Checked Float
◌⊡◌ m n = do
  a ← m
  b ← n
  dot_c a b

-- the cross product
abbrev pub ◌⨯◌ : Checked Vec3 → Checked Vec3 → Checked Vec3
◌⨯◌ m n = do
  a ← m
  b ← n
  cross_c a b
