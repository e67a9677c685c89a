-- What the arctangent gives at a NaN and at the zeros. Assumes nothing.
use Rattle.std.specs.Prelude.{◌≡◌, refl, Bool, true, false, Float}
use Rattle.std.proofs.Common.{sym, ap, ◌∙◌}
use Rattle.std.specs.Float.{nan}
use Rattle.std.specs.Float.Ieee.{is_nan, to_bits}
use Rattle.std.specs.Float.Ieee.Compare.{differs_from_itself}
use Rattle.checked.specs.PatternLaws.{yes, ne_self}
use Rattle.float_bits.specs.FloatBits.{fabs}
use Rattle.float_bits.specs.Signs.{nought_of}
use Rattle.libm.specs.Atan.{atan}

-- a NaN is its own arctangent
nan_itself : atan nan ≡ nan
unfolding atan is_nan to_bits
nan_itself = refl

pub atan_nan : (x : Float) → is_nan x ≡ true → x ≡ atan x
atan_nan x h = let e = differs_from_itself x (yes (ne_self x ∙ h)) in e ∙ sym (ap atan e ∙ nan_itself)

pub atan_nan_size : (x : Float) → is_nan x ≡ true → x ≡ atan (fabs x)
unfolding fabs
atan_nan_size x h = let e = differs_from_itself x (yes (ne_self x ∙ h)) in e ∙ sym (ap (λ (v : Float). atan (fabs v)) e ∙ nan_itself)

-- and so is a zero
pub atan_nought : (s : Bool) → atan (nought_of s) ≡ nought_of s
unfolding atan to_bits
atan_nought true = refl
atan_nought false = refl
