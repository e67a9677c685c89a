-- Values of arccosine and hypotenuse, which antt computes from the definitions: the special values
-- of ISO C, Annex F, then answers that libm 0.2.1 gave. Assumes nothing.
use Rattle.std.specs.Prelude.{ℕ, ◌≡◌, refl, List, [], ◌∷◌, map}
use Rattle.std.specs.Float.Ieee.{add, sub, mul, div, neg, to_bits, of_bits}
use Rattle.checked.specs.Numbers.{literal}
use Rattle.rounding.specs.Root as Root
use Rattle.float_bits.specs.Special.{minus, nought, least, one, greatest, infinity, not_a_number, π, π/2}
use Rattle.libm.specs.Acos.{acos_far, acos_near}
use Rattle.libm.specs.Hypot.{greater, lesser, hypot_ordered}
use Rattle.libm.specs.Roots.{acos, hypot}

-- ---- acos

-- the patterns of a cosine and of its angle
record Angle : Type 0 where
  cosine : ℕ
  answer : ℕ

abbrev of_cosine : ℕ → ℕ → Angle
of_cosine x a = record { cosine = x; answer = a }

-- 1 is +0's cosine; beyond 1 there is no angle
angles : List Angle
angles =
    of_cosine one nought
    ∷ of_cosine (minus one) π
    ∷ of_cosine nought π/2
    ∷ of_cosine (minus nought) π/2
    ∷ of_cosine least π/2
    ∷ of_cosine 0x3ff00000_00000001 not_a_number
    ∷ of_cosine (minus 0x3ff00000_00000001) not_a_number
    ∷ of_cosine greatest not_a_number
    ∷ of_cosine infinity not_a_number
    ∷ of_cosine (minus infinity) not_a_number
    ∷ of_cosine not_a_number not_a_number
    ∷ of_cosine 0x3fd00000_00000000 0x3ff51700_e0c14b25
    ∷ of_cosine 0xbfd00000_00000000 0x3ffd2cf5_c7c70f0c
    ∷ of_cosine 0x3fe80000_00000000 0x3fe720a3_92c1d955
    ∷ of_cosine 0xbfe80000_00000000 0x400359d2_6f93b6c3
    ∷ of_cosine 0x3bc79ca1_0c924223 0x3ff921fb_54442d18
    ∷ []

acos_values : map (λ r. acos (literal r.cosine)) angles ≡ map (λ r. literal r.answer) angles
unfolding angles acos acos_far acos_near Root.sqrt add sub mul div neg to_bits of_bits
acos_values = refl

-- ---- hypot

-- the patterns of two sides and of the hypotenuse
record Sides : Type 0 where
  x : ℕ
  y : ℕ
  answer : ℕ

abbrev row : ℕ → ℕ → ℕ → Sides
row x y a = record { x = x; y = y; answer = a }

-- an infinite side has an infinite hypotenuse, even beside a NaN; beside a zero a side is its own
sides : List Sides
sides =
    row infinity one infinity
    ∷ row (minus infinity) one infinity
    ∷ row (minus one) infinity infinity
    ∷ row nought (minus infinity) infinity
    ∷ row infinity (minus infinity) infinity
    ∷ row infinity not_a_number infinity
    ∷ row not_a_number (minus infinity) infinity
    ∷ row not_a_number one not_a_number
    ∷ row nought not_a_number not_a_number
    ∷ row not_a_number not_a_number not_a_number
    ∷ row nought nought nought
    ∷ row (minus nought) (minus nought) nought
    ∷ row one (minus nought) one
    ∷ row nought (minus one) one
    ∷ row (minus least) nought least
    ∷ row greatest (minus greatest) infinity
    ∷ row 0x40080000_00000000 0x40100000_00000000 0x40140000_00000000
    ∷ row 0xc0140000_00000000 0x40280000_00000000 0x402a0000_00000000
    ∷ row 0x3ff00000_00000000 0x3ff00000_00000000 0x3ff6a09e_667f3bcd
    ∷ row 0x7e37e43c_8800759c 0x7e37e43c_8800759c 0x7e40e4d5_0f99b211
    ∷ row 0x00001268_8b70e62b 0x00003739_a252b281 0x00003a36_5ff2ea11
    ∷ row 0x00000000_00000000 0xc01c0000_00000000 0x401c0000_00000000
    ∷ row 0x54b249ad_2594c37d 0x3ff00000_00000000 0x54b249ad_2594c37d
    ∷ []

hypot_values : map (λ r. hypot (literal r.x) (literal r.y)) sides ≡ map (λ r. literal r.answer) sides
unfolding sides hypot greater lesser hypot_ordered Root.sqrt add sub mul div neg to_bits of_bits
hypot_values = refl
