-- The whole thousandths of a number, worked out from its exact value.
use Rattle.std.specs.Prelude.{ℕ, zero, suc, ◌+◌, ◌*◌, ◌/◌, ◌^◌, Bool, true, false, cond, ℤ, pos, negsuc, leb, Float}
use Rattle.std.specs.Float.{nan, inf, fin}
use Rattle.std.specs.Float.Ieee.{up, down}
use Rattle.checked.specs.Refusals.{COUNT_TOO_LARGE}
use Rattle.checked.specs.Checked.{Due, due, refused}

-- the whole number nearest to n / d; a half goes up
abbrev pub nearest_up : ℕ → ℕ → ℕ
nearest_up n d = (2 * n + d) / (2 * d)

-- a size with its sign, true for a negative one; a zero has none
unfoldable pub signed : Bool → ℕ → ℤ
signed true zero = pos zero
signed true (suc n) = negsuc n
signed false n = pos n

-- the most that are printed, in magnitude
abbrev pub most : ℕ
most = 10 ^ 9

-- a whole number of thousandths, refused where it is above the most
abbrev pub counted : Bool → ℕ → Due ℤ
counted s size = cond (leb size most) (due (signed s size)) (refused COUNT_TOO_LARGE)

-- The thousandths of m * 2 ^ e, which is m * up e / down e: nearest, a half away from zero. An infinity or a NaN has too many.
unfoldable pub thousandths : Float → Due ℤ
thousandths nan = refused COUNT_TOO_LARGE
thousandths (inf s) = refused COUNT_TOO_LARGE
thousandths (fin s m e) = counted s (nearest_up (1000 * (m * up e)) (down e))
