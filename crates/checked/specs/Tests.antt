-- Tests of what is handed in, by number. An entry is due `passing tests rest`: the tests stand in rising order of their numbers, joined by `or`, so
-- that the lowest number wins; a test of a higher number is one line more. An entry names the tests that it makes and no others.
use Rattle.std.specs.Prelude.{ℕ, zero, suc, Bool, not, cond, Float}
use Rattle.std.specs.Float.Ieee.{lt}
use Rattle.checked.specs.Refusals.{NEUTRAL_NOT_POSITIVE, BAD_TOLERANCE}
use Rattle.checked.specs.Checked.{first, Due, refused}
use Rattle.checked.specs.Numbers as numbers

-- the number n where its test does not hold; 0 is none
unfoldable pub fails : ℕ → Bool → ℕ
fails n holds = cond holds 0 n

-- of two tests, or of two groups of them, the number of the one that fails first
infixl 4 ◌or◌
abbrev pub ◌or◌ : ℕ → ℕ → ℕ
◌or◌ r s = first r s

-- the refusal by the test that failed, where one did, else the rest
unfoldable pub passing : {A : Type 0} → ℕ → Due A → Due A
passing zero rest = rest
passing (suc n) rest = refused (suc n)

-- ---- tests that several entries make
-- a neutral radius is above 0
unfoldable pub neutral_test : Float → ℕ
neutral_test n = fails NEUTRAL_NOT_POSITIVE (lt numbers.zero n)

-- a chord is not below 0; -0 is 0
unfoldable pub chord_test : Float → ℕ
chord_test chord = fails BAD_TOLERANCE (not (lt chord numbers.zero))
