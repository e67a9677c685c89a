-- Which angles are refused, and by which number; sine and cosine of the zeros. Assumes nothing.
use Rattle.std.specs.Prelude.{◌≡◌, refl, Bool, true, false, cond, T, Float}
use Rattle.std.proofs.Common.{arith}
use Rattle.std.specs.Float.Ieee.{neg, le, to_bits, of_bits}
use Rattle.checked.specs.Refusals.{ANGLE_TOO_LARGE, NOT_FINITE}
use Rattle.checked.specs.Checked.{first, nine, eight, is_finite, within}
use Rattle.checked.specs.PatternLaws.{yes}
use Rattle.checked.specs.Laws.{within_finite}
use Rattle.checked.specs.Numbers.{one}
use Rattle.float_bits.specs.Signs.{nought_of}
use Rattle.libm.specs.Sincos.{sine, sines, sine_or_zero, sines_or_zeros, sin_c, sincos_c}

finite_is : (b : Bool) → T b → b ≡ true
finite_is true h = refl
finite_is false h = absurd h

-- none where it is within 1,048,576
pub meets_none : (x : Float) → within x ≡ true → first (nine x) (eight x) ≡ 0
unfolding nine eight first
meets_none x h = simp (h, finite_is (is_finite x) (within_finite x (yes h)))

-- and only for it
pub within_where_none : (x : Float) → 0 ≡ first (nine x) (eight x) → within x ≡ true
unfolding nine eight first
within_where_none x h = go (is_finite x) (within x) h
  where
    go : (f w : Bool) → 0 ≡ first (cond f 0 NOT_FINITE) (cond w 0 ANGLE_TOO_LARGE) → w ≡ true
    go f true h = refl
    go true false h = absurd (omega arith)
    go false false h = absurd (omega arith)

-- 8 where it is finite and above that, 9 where it is not finite
pub meets_eight : (x : Float) → is_finite x ≡ true → within x ≡ false → first (nine x) (eight x) ≡ ANGLE_TOO_LARGE
unfolding nine eight first
meets_eight x f h = simp (h, f)

pub meets_nine : (x : Float) → is_finite x ≡ false → first (nine x) (eight x) ≡ NOT_FINITE
unfolding nine eight first
meets_nine x f = simp f

-- ---- a zero is its own sine, and its cosine is 1 (ISO C, Annex F)

pub sincos_nought : (s : Bool) → sincos_c (nought_of s) ≡ record { refusal = 0; value = record { sin = nought_of s; cos = one } }
unfolding first nine eight within is_finite sines_or_zeros sines le neg to_bits of_bits
sincos_nought true = refl
sincos_nought false = refl

pub sin_nought : (s : Bool) → sin_c (nought_of s) ≡ record { refusal = 0; value = nought_of s }
unfolding first nine eight within is_finite sine_or_zero sine le neg to_bits of_bits
sin_nought true = refl
sin_nought false = refl
