-- Thousandths and digits of a few numbers, which antt computes.
use Rattle.std.specs.Prelude.{◌≡◌, refl, [], ◌∷◌, true, false, pos, negsuc}
use Rattle.std.specs.Float.{nan, fin, binary64}
use Rattle.std.specs.Float.Ieee.{of_bits}
use Rattle.checked.specs.Refusals.{COUNT_TOO_LARGE}
use Rattle.checked.specs.Checked.{due, refused}
use Rattle.decimals.specs.Thousandths.{thousandths, signed}
use Rattle.decimals.specs.Digits.{numeral, digits}

-- 2 ^ -12, and 1/16 of either sign, whose thousandths end in a half
tiny : thousandths (fin false 1 (negsuc 11)) ≡ due (pos 0)
unfolding thousandths signed
tiny = refl

sixteenth : thousandths (fin false 1 (negsuc 3)) ≡ due (pos 63)
unfolding thousandths signed
sixteenth = refl

minus_sixteenth : thousandths (fin true 1 (negsuc 3)) ≡ due (negsuc 62)
unfolding thousandths signed
minus_sixteenth = refl

minus_zero : thousandths (fin true 0 (pos 0)) ≡ due (pos 0)
unfolding thousandths signed
minus_zero = refl

-- the number written 1.0005, which lies below 1.0005; the product 1000 × x would round to 1000.5
below_a_half : thousandths (of_bits binary64 0x3ff0_020c_49ba_5e35) ≡ due (pos 1000)
unfolding thousandths signed of_bits
below_a_half = refl

-- a million, and one more
million : thousandths (of_bits binary64 0x412e_8480_0000_0000) ≡ due (pos 1_000_000_000)
unfolding thousandths signed of_bits
million = refl

above_a_million : thousandths (of_bits binary64 0x412e_8482_0000_0000) ≡ refused COUNT_TOO_LARGE
unfolding thousandths of_bits
above_a_million = refl

no_number : thousandths nan ≡ refused COUNT_TOO_LARGE
unfolding thousandths
no_number = refl

-- 0, -5000 and 2 ^ 64 - 1 as text
nought : numeral (pos 0) ≡ 48 ∷ []
unfolding numeral
nought = refl

minus_five : numeral (negsuc 4999) ≡ 45 ∷ 53 ∷ 48 ∷ 48 ∷ 48 ∷ []
unfolding numeral
minus_five = refl

longest : digits 18_446_744_073_709_551_615 ≡ 49 ∷ 56 ∷ 52 ∷ 52 ∷ 54 ∷ 55 ∷ 52 ∷ 52 ∷ 48 ∷ 55 ∷ 51 ∷ 55 ∷ 48 ∷ 57 ∷ 53 ∷ 53 ∷ 49 ∷ 54 ∷ 49 ∷ 53 ∷ []
unfolding digits
longest = refl
