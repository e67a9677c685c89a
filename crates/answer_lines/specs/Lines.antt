-- What stands in a line of the list.
use Rattle.std.specs.Prelude.{ℕ, zero, suc, ◌+◌, ◌*◌, ◌-◌, ◌/◌, ◌%◌, Bool, cond, List, ltb, leb, eqb, get_or, length}

-- a digit by its byte: `0` to `9` are 48 to 57, of which 48 is three times 16, and `a` to `f` are 97 to 102
unfoldable pub digit : ℕ → ℕ
digit b = cond (ltb b 97) (b % 16) ((b - 87) % 16)

-- the number that n digits spell from a place on, the highest first
unfoldable pub spelt : ℕ → List ℕ → ℕ → ℕ → ℕ
spelt base s at zero = 0
spelt base s at (suc n) = spelt base s at n * base + digit (get_or s (at + n) 0)

-- long enough for the two pairs of digits
abbrev pub has_pairs : List ℕ → Bool
has_pairs s = leb 5 (length s)

-- the operation's number
unfoldable pub operation : List ℕ → ℕ
operation s = cond (has_pairs s) (spelt 10 s 0 2) 0

-- the refusal's number; 0 is none
unfoldable pub refusal : List ℕ → ℕ
refusal s = cond (has_pairs s) (spelt 10 s 3 2) 0

-- how many patterns there are, each of 16 digits after a space
unfoldable pub count : List ℕ → ℕ
count s = cond (eqb (length s % 17) 5) (length s / 17) 0

-- pattern k
unfoldable pub pattern : List ℕ → ℕ → ℕ
pattern s k = cond (ltb k (count s)) (spelt 16 s (6 + 17 * k) 16) 0
