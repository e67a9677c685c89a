-- A computation that goes on as IEEE 754 does and keeps the number of the refusal that it meets first, and the answer that an entry gives.
use Rattle.std.specs.Prelude.{ℕ, zero, suc, Bool, true, false, cond, ◌&&◌, Float}
use Rattle.std.specs.Float.{nan, inf, fin, binary64}
use Rattle.std.specs.Float.Ieee.{add, sub, mul, div, neg, le, of_bits}
use Rattle.checked.specs.Refusals.{ANGLE_TOO_LARGE, NOT_FINITE}

-- ---- computations
-- a value, and the refusal met first on the way to it; 0 is none
pub record Checked (A : Type 0) : Type 0 where
  pub refusal : ℕ
  pub value : A

-- of two refusals the earlier one, where there is one
unfoldable pub first : ℕ → ℕ → ℕ
first zero s = s
first (suc r) s = suc r

-- one computation, then the next
abbrev pub ◌>>=◌ : {A B : Type 0} → Checked A → (A → Checked B) → Checked B
◌>>=◌ m f = record { refusal = first m.refusal (f m.value).refusal; value = (f m.value).value }

-- a value at hand
abbrev pub given : {A : Type 0} → A → Checked A
given a = record { refusal = 0; value = a }

-- ---- what a number is tried for
-- neither a NaN nor an infinity
unfoldable pub is_finite : Float → Bool
is_finite nan = false
is_finite (inf s) = false
is_finite (fin s m e) = true

-- the refusal of a number that the result depends on
unfoldable pub nine : Float → ℕ
nine x = cond (is_finite x) 0 NOT_FINITE

-- 1048576
abbrev pub limit : Float
limit = of_bits binary64 0x4130_0000_0000_0000

-- finite, and at most 1,048,576 in magnitude: a NaN and the infinities fail one of the two comparisons
unfoldable pub within : Float → Bool
within x = le (neg limit) x && le x limit

-- the refusal of an angle that is due for a sine or cosine, and finite
unfoldable pub eight : Float → ℕ
eight x = cond (within x) 0 ANGLE_TOO_LARGE

-- ---- operations over computations, the left one first, so that an expression reads as the Rust's does:
-- `num a ⊕ num b ⊗ num c` is a + b * c, and what each operation gives is tried
abbrev pub finite : Float → Checked Float
finite x = record { refusal = nine x; value = x }

-- a number at hand, which is not tried again
abbrev pub num : Float → Checked Float
num x = given x

infixl 6 ◌⊕◌ ◌⊖◌
infixl 7 ◌⊗◌ ◌⊘◌
-- the sum
abbrev pub ◌⊕◌ : Checked Float → Checked Float → Checked Float
◌⊕◌ m n = do
  x ← m
  y ← n
  finite (add binary64 x y)

-- the difference
abbrev pub ◌⊖◌ : Checked Float → Checked Float → Checked Float
◌⊖◌ m n = do
  x ← m
  y ← n
  finite (sub binary64 x y)

-- the product
abbrev pub ◌⊗◌ : Checked Float → Checked Float → Checked Float
◌⊗◌ m n = do
  x ← m
  y ← n
  finite (mul binary64 x y)

-- the quotient
abbrev pub ◌⊘◌ : Checked Float → Checked Float → Checked Float
◌⊘◌ m n = do
  x ← m
  y ← n
  finite (div binary64 x y)

-- the number with its sign changed
abbrev pub minus : Checked Float → Checked Float
minus m = do
  x ← m
  finite (neg x)

-- ---- answers
-- what an entry is due to answer: a result, or a refusal's number and nothing else
pub data Due (A : Type 0) : Type 0 where
  due : A → Due A
  refused : ℕ → Due A

-- the value where no refusal was met
unfoldable pub settled : {A : Type 0} → ℕ → A → Due A
settled zero a = due a
settled (suc r) a = refused (suc r)

-- a computation's answer
abbrev pub answered : {A : Type 0} → Checked A → Due A
answered c = settled c.refusal c.value
