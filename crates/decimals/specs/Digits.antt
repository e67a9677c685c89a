-- A whole number as text, in ASCII.
use Rattle.std.specs.Prelude.{ℕ, zero, suc, ◌+◌, ◌/◌, ◌%◌, cond, List, [], ◌∷◌, ◌++◌, eqb, ℤ, pos, negsuc}
use Rattle.std.specs.Float.Ieee.{size}

-- the byte of a digit, and of the sign
abbrev pub glyph : ℕ → ℕ
glyph d = 48 + d

abbrev pub minus : ℕ
minus = 45

-- The decimal digits of n, which has at most k of them: the last digit, and before it the digits of n / 10 where that is not 0.
unfoldable pub spelled : ℕ → ℕ → List ℕ
spelled zero n = []
spelled (suc k) n = cond (eqb (n / 10) 0) [] (spelled k (n / 10)) ++ (glyph (n % 10) ∷ [])

-- the decimal digits of n, the first one first; there are no more of them than binary digits, and one for 0
unfoldable pub digits : ℕ → List ℕ
unfolding spelled size
digits n = spelled (suc (size n)) n

-- a whole number with its sign
unfoldable pub numeral : ℤ → List ℕ
unfolding digits
numeral (pos n) = digits n
numeral (negsuc n) = minus ∷ digits (suc n)
