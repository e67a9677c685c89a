-- Sine and cosine of libm 0.2.1, operation by operation: sin.rs and sincos.rs, over the kernels
-- (`k_trig`) and the reduction of an angle (`rem_pio2`), with libm's names for constants
-- and variables. Definitions only. They are due at angles of at most 1,048,576 in magnitude.
-- Operations that libm makes only to raise a flag are left out.
use Rattle.std.specs.Prelude.{ℕ, leb, ltb, Float, if◌then◌else◌}
use Rattle.std.specs.Float.Ieee.{neg}
use Rattle.checked.specs.Checked.{Checked, first, nine, eight, within}
use Rattle.checked.specs.Patterns.{high_word}
use Rattle.checked.specs.Numbers.{zero, one}
use Rattle.float_bits.specs.FloatBits.{choose}
use Rattle.libm.specs.KTrig.{k_sin0, k_sin, k_cos}
use Rattle.libm.specs.RemPio2.{rem_pio2}
use Rattle.libm.specs.declared.rem_pio2.Rest.{Rest}
use Rattle.libm.specs.declared.sincos.Sines.{Sines}

-- ---- sin.rs

-- up to π/4, or nearly; below 2^-26 the angle itself
abbrev pub small_sine : ℕ → Float → Float
small_sine ix x = if ltb ix 0x3e500000 then x else k_sin0 x

-- by the quarter
unfoldable pub turned_sine : Rest → Float
turned_sine r =
    let s = k_sin r.y0 r.y1 in
    let c = k_cos r.y0 r.y1 in
    choose r.quarter s c (neg s) (neg c)

-- the sine of an angle that is due
unfoldable pub sine : Float → Float
sine x =
    let ix = high_word x in
    if leb ix 0x3fe921fb then small_sine ix x else turned_sine (rem_pio2 x)

-- ---- sincos.rs

-- up to π/4, or nearly; below 2^-27 times √2 the angle itself, and 1
abbrev pub small_sines : ℕ → Float → Sines
small_sines ix x =
    if ltb ix 0x3e46a09e then record { sin = x; cos = one }
    else record { sin = k_sin0 x; cos = k_cos x zero }

-- by the quarter
unfoldable pub turned_sines : Rest → Sines
turned_sines r =
    let s = k_sin r.y0 r.y1 in
    let c = k_cos r.y0 r.y1 in
    record { sin = choose r.quarter s c (neg s) (neg c); cos = choose r.quarter c (neg s) (neg c) s }

-- the sine and the cosine of an angle that is due
unfoldable pub sines : Float → Sines
sines x =
    let ix = high_word x in
    if leb ix 0x3fe921fb then small_sines ix x else turned_sines (rem_pio2 x)

-- ---- of every angle, with the refusal that it meets

-- the sine, or 0
unfoldable pub sine_or_zero : Float → Float
sine_or_zero x = if within x then sine x else zero

-- the sine and the cosine, or zeros
unfoldable pub sines_or_zeros : Float → Sines
sines_or_zeros x = if within x then sines x else record { sin = zero; cos = zero }

-- the sine, tried: 9 where the angle is not finite, else 8 where it is too large
abbrev pub sin_c : Float → Checked Float
sin_c x = record { refusal = first (nine x) (eight x); value = sine_or_zero x }

-- the sine and the cosine, tried in the same way
abbrev pub sincos_c : Float → Checked Sines
sincos_c x = record { refusal = first (nine x) (eight x); value = sines_or_zeros x }
