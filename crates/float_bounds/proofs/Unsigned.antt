-- Numbers with no minus sign: magnitudes, squares and their sums. Assumes nothing.
use Rattle.std.specs.Prelude.{◌≡◌, refl, true, ℕ, ◌+◌, ◌*◌, ◌/◌, ◌%◌, ◌^◌, T, Float}
use Rattle.std.proofs.Common.{subst}
use Rattle.std.proofs.Math.Bool.{false}
use native.Mathlib.Omega.{arith}
use Rattle.std.specs.Float.{nan, inf, fin, Format, binary64}
use Rattle.std.specs.Float.Ieee.{up, down, sum, add, mul, fits, is_nan}
use Rattle.checked.specs.Checked.{is_finite}
use Rattle.checked.specs.Patterns.{bits}
use Rattle.float_bits.specs.FloatBits.{fabs, sign}
use Rattle.float_bits.specs.Laws.{bits_fabs}
use Rattle.float_bounds.specs.Intervals.{plain}
use Rattle.float_bounds.proofs.Intervals.{fabs_round}

-- finite and unsigned is `plain`
pub plain_of : (x : Float) → T (is_finite x) → fabs x ≡ x → T (plain x)
unfolding fabs is_finite
plain_of nan X h = absurd X
plain_of (inf s) X h = absurd X
plain_of (fin true m e) X h = subst (λ (v : Float). T (plain v)) h tt
plain_of (fin false m e) X h = tt

pub square_unsigned : (f : Format) (x : Float) → T (is_finite x) → fabs (mul f x x) ≡ mul f x x
unfolding mul is_finite
square_unsigned f nan X = absurd X
square_unsigned f (inf s) X = absurd X
square_unsigned f (fin true m e) X = fabs_round f false (m * up e * (m * up e)) (down e * down e)
square_unsigned f (fin false m e) X = fabs_round f false (m * up e * (m * up e)) (down e * down e)

pub add_unsigned : (f : Format) (x y : Float) → T (plain x) → T (plain y) → fabs (add f x y) ≡ add f x y
unfolding add sum
add_unsigned f nan y X Y = absurd X
add_unsigned f (inf s) y X Y = absurd X
add_unsigned f (fin true m e) y X Y = absurd X
add_unsigned f (fin false m e) nan X Y = absurd Y
add_unsigned f (fin false m e) (inf t) X Y = absurd Y
add_unsigned f (fin false m e) (fin true n d) X Y = absurd Y
add_unsigned f (fin false m e) (fin false n d) X Y = fabs_round f false (m * up e * down d + n * up d * down e) (down e * down d)

-- its sign's bit is 0
pub plain_sign : (x : Float) → T (plain x) → T (fits binary64 x) → sign x ≡ 0
plain_sign nan X F = absurd X
plain_sign (inf s) X F = absurd X
plain_sign (fin true m e) X F = absurd X
plain_sign (fin false m e) X F = none (bits (fin false m e)) (unfold fabs in bits_fabs (fin false m e) F)
  where
    none : (b : ℕ) → b ≡ b % 2 ^ 63 → b / 2 ^ 63 ≡ 0
    none b h = omega arith

pub plain_number : (x : Float) → T (plain x) → is_nan x ≡ false
unfolding is_nan
plain_number nan X = absurd X
plain_number (inf s) X = absurd X
plain_number (fin s m e) X = refl
