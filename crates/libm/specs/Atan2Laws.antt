-- What atan2 gives where one argument is a zero (ISO C, Annex F). Assumes nothing.
use Rattle.std.specs.Prelude.{◌≡◌, refl, Bool, true, false, cond, ℕ, ◌+◌, ◌*◌, ◌/◌, ◌^◌, T, Float, if◌then◌else◌}
use Rattle.std.proofs.Common.{◌∙◌, arith, ne_eqb}
use Rattle.std.specs.Float.{binary64}
use Rattle.std.specs.Float.Ieee.{fits, neg, lt, is_nan, to_bits}
use Rattle.checked.specs.Patterns.{bits}
use Rattle.checked.specs.Numbers.{two, pi}
use Rattle.float_bits.specs.FloatBits.{◌/ᶠ◌, sign, choose}
use Rattle.float_bits.specs.Signs.{nought, nought_of, above_sign, below_sign, above_no_nan, below_no_nan, above_size, below_size}
use Rattle.libm.specs.AtanLaws.{atan_nought}
use Rattle.libm.specs.Atan2.{atan2, angle, is_one}

-- ---- y is ±0

at_nought : (s : Bool) (x : Float) (k : ℕ) → is_nan x ≡ false → sign x ≡ k
    → atan2 (nought_of s) x ≡ (if is_one x then nought_of s else choose (2 * k + cond s 1 0) (nought_of s) (nought_of s) pi (neg pi))
unfolding atan2 angle is_nan to_bits
at_nought true x k n g = simp (n, g, atan_nought)
at_nought false x k n g = simp (n, g, atan_nought)

-- x above 0: y itself
pub nought_above : (s : Bool) (x : Float) → T (fits binary64 x) → T (lt nought x) → atan2 (nought_of s) x ≡ nought_of s
unfolding choose
nought_above s x F h = at_nought s x 0 (above_no_nan x h) (above_sign x F h) ∙ by s (is_one x)
  where
    by : (s b : Bool) → (if b then nought_of s else choose (2 * 0 + cond s 1 0) (nought_of s) (nought_of s) pi (neg pi)) ≡ nought_of s
    by s true = refl
    by true false = refl
    by false false = refl

-- x below 0: π by the sign of y
pub nought_below : (s : Bool) (x : Float) → T (fits binary64 x) → T (lt x nought) → atan2 (nought_of s) x ≡ cond s (neg pi) pi
unfolding choose is_one
nought_below s x F h = at_nought s x 1 (below_no_nan x h) (below_sign x F h) ∙ by s (is_one x) (never x (below_sign x F h))
  where
    never : (x : Float) → sign x ≡ 1 → is_one x ≡ false
    never x g = ne_eqb (bits x) 0x3ff00000_00000000 (λ e. other (bits x) g e)
      where
        other : (b : ℕ) → b / 2 ^ 63 ≡ 1 → b ≡ 0x3ff00000_00000000 → ⊥
        other b g e = omega arith

    by : (s b : Bool) → b ≡ false → (if b then nought_of s else choose (2 * 1 + cond s 1 0) (nought_of s) (nought_of s) pi (neg pi)) ≡ cond s (neg pi) pi
    by true b e = simp e
    by false b e = simp e

-- x is ±0 too: y itself beside +0, π by the sign of y beside -0
pub nought_nought : (s t : Bool) → atan2 (nought_of s) (nought_of t) ≡ cond t (cond s (neg pi) pi) (nought_of s)
unfolding atan2 angle is_one is_nan to_bits choose
nought_nought true true = refl
nought_nought true false = refl
nought_nought false true = refl
nought_nought false false = refl

-- ---- x is ±0 and y is not: half of π by the sign of y

pub above_nought : (y : Float) (t : Bool) → T (fits binary64 y) → T (lt nought y) → atan2 y (nought_of t) ≡ pi /ᶠ two
unfolding atan2 angle is_one is_nan to_bits
above_nought y true F h = simp (above_no_nan y h, above_size y F h, above_sign y F h)
above_nought y false F h = simp (above_no_nan y h, above_size y F h, above_sign y F h)

pub below_nought : (y : Float) (t : Bool) → T (fits binary64 y) → T (lt y nought) → atan2 y (nought_of t) ≡ neg pi /ᶠ two
unfolding atan2 angle is_one is_nan to_bits
below_nought y true F h = simp (below_no_nan y h, below_size y F h, below_sign y F h)
below_nought y false F h = simp (below_no_nan y h, below_size y F h, below_sign y F h)
