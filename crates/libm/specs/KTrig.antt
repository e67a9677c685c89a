-- The kernels of sine and cosine of libm 0.2.1, operation by operation: k_sin.rs and k_cos.rs, with
-- their names for constants and variables. Definitions only.
-- Method: on [−π/4, π/4] an odd and an even polynomial of least greatest error; y is what the angle x was short of, and
-- counts to first order.
use Rattle.std.specs.Prelude.{Float}
use Rattle.checked.specs.Numbers.{half, one, literal}
use Rattle.float_bits.specs.FloatBits.{◌+ᶠ◌, ◌-ᶠ◌, ◌*ᶠ◌}

-- ---- k_sin.rs

abbrev pub S1 : Float
S1 = literal 0xBFC55555_55555549  -- -1.66666666666666324348e-01

abbrev pub S2 : Float
S2 = literal 0x3F811111_1110F8A6  -- 8.33333333332248946124e-03

abbrev pub S3 : Float
S3 = literal 0xBF2A01A0_19C161D5  -- -1.98412698298579493134e-04

abbrev pub S4 : Float
S4 = literal 0x3EC71DE3_57B1FE7D  -- 2.75573137070700676789e-06

abbrev pub S5 : Float
S5 = literal 0xBE5AE5E6_8A2B9CEB  -- -2.50507602534068634195e-08

abbrev pub S6 : Float
S6 = literal 0x3DE5D93A_5ACFD57C  -- 1.58969099521155010221e-10

-- r, by z
abbrev pub sine_series : Float → Float
sine_series z =
    let w = z *ᶠ z in
    S2 +ᶠ z *ᶠ (S3 +ᶠ z *ᶠ S4) +ᶠ z *ᶠ w *ᶠ (S5 +ᶠ z *ᶠ S6)

-- the sine of x: iy is 0
abbrev pub k_sin0 : Float → Float
k_sin0 x =
    let z = x *ᶠ x in
    let r = sine_series z in
    let v = z *ᶠ x in
    x +ᶠ v *ᶠ (S1 +ᶠ z *ᶠ r)

-- the sine of x + y: iy is 1
abbrev pub k_sin : Float → Float → Float
k_sin x y =
    let z = x *ᶠ x in
    let r = sine_series z in
    let v = z *ᶠ x in
    x -ᶠ ((z *ᶠ (half *ᶠ y -ᶠ v *ᶠ r) -ᶠ y) -ᶠ v *ᶠ S1)

-- ---- k_cos.rs

abbrev pub C1 : Float
C1 = literal 0x3FA55555_5555554C  -- 4.16666666666666019037e-02

abbrev pub C2 : Float
C2 = literal 0xBF56C16C_16C15177  -- -1.38888888888741095749e-03

abbrev pub C3 : Float
C3 = literal 0x3EFA01A0_19CB1590  -- 2.48015872894767294178e-05

abbrev pub C4 : Float
C4 = literal 0xBE927E4F_809C52AD  -- -2.75573143513906633035e-07

abbrev pub C5 : Float
C5 = literal 0x3E21EE9E_BDB4B1C4  -- 2.08757232129817482790e-09

abbrev pub C6 : Float
C6 = literal 0xBDA8FAE9_BE8838D4  -- -1.13596475577881948265e-11

-- the cosine of x + y
abbrev pub k_cos : Float → Float → Float
k_cos x y =
    let z = x *ᶠ x in
    let w = z *ᶠ z in
    let r = z *ᶠ (C1 +ᶠ z *ᶠ (C2 +ᶠ z *ᶠ C3)) +ᶠ w *ᶠ w *ᶠ (C4 +ᶠ z *ᶠ (C5 +ᶠ z *ᶠ C6)) in
    let hz = half *ᶠ z in
    let w = one -ᶠ hz in
    w +ᶠ (((one -ᶠ w) -ᶠ hz) +ᶠ (z *ᶠ r -ᶠ x *ᶠ y))
