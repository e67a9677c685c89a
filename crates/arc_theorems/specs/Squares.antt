-- A vector with itself: its cross product is zero, and its dot product has no minus sign. Assumes
-- nothing.
use Rattle.std.specs.Prelude.{◌≡◌, ℕ, suc, ◌+◌, ◌≤◌, T, Float}
use Rattle.std.proofs.Common.{ap, ◌∙◌, arith}
use Rattle.std.specs.Float.Ieee.{binary64, add, sub, mul, fits}
use Rattle.std.specs.Float.Ieee.Fits.{add-fits}
use Rattle.checked.specs.Checked.{is_finite}
use Rattle.vectors.specs.declared.Vec3.{Vec3}
use Rattle.vectors.specs.Vectors.{space, cross_c, dot_c}
use Rattle.float_bounds.specs.Parts.{nought}
use Rattle.float_bounds.specs.Intervals.{Upto, plain}
use Rattle.float_bounds.proofs.Own.{sub_self, mul_comm_of}
use Rattle.float_bounds.proofs.Unsigned.{plain_of, square_unsigned, add_unsigned}
use Rattle.float_bounds.specs.Powers.{pow}
use Rattle.float_bounds.proofs.Powers.{pow_finite, pow_mul, pow_add_of}
use Rattle.arc_theorems.specs.Sizes.{Upto3, dot3}

-- a product less itself, and a sum of two squares
pub crossed_zero : (x y : Float) → T (is_finite x) → T (is_finite y) → T (is_finite (mul binary64 x y)) → sub binary64 (mul binary64 x y) (mul binary64 y x) ≡ nought
crossed_zero x y X Y P = ap (sub binary64 (mul binary64 x y)) (mul_comm_of binary64 y x Y X) ∙ sub_self binary64 (mul binary64 x y) P

pub square_plain : (x : Float) → T (is_finite x) → T (is_finite (mul binary64 x x)) → T (plain (mul binary64 x x))
square_plain x X P = plain_of (mul binary64 x x) P (square_unsigned binary64 x X)

pub sum_plain : (x y : Float) → T (plain x) → T (plain y) → T (is_finite (add binary64 x y)) → T (plain (add binary64 x y))
sum_plain x y X Y P = plain_of (add binary64 x y) P (add_unsigned binary64 x y X Y)

-- ---- a vector with itself

module _ (k : ℕ) (u : Vec3) (K : suc (suc (k + k)) ≤ 1023) (U : Upto3 k u) where
  product : (x y : Float) → Upto (pow k) x → Upto (pow k) y → Upto (pow (k + k)) (mul binary64 x y)
  product x y p q = pow_mul k k x y (omega arith) p q

  no_area : (x y : Float) → Upto (pow k) x → Upto (pow k) y → sub binary64 (mul binary64 x y) (mul binary64 y x) ≡ nought
  no_area x y p q = crossed_zero x y (pow_finite k x p) (pow_finite k y q) (pow_finite (k + k) (mul binary64 x y) (product x y p q))

  pub cross_self : (cross_c u u).value ≡ space nought nought nought
  unfolding cross_c
  cross_self = λ i. space (no_area u.y u.z U.y U.z i) (no_area u.z u.x U.z U.x i) (no_area u.x u.y U.x U.y i)

  square : (x : Float) → Upto (pow k) x → T (plain (mul binary64 x x))
  square x h = square_plain x (pow_finite k x h) (pow_finite (k + k) (mul binary64 x x) (product x x h h))

  pub dot_self : T (plain (dot_c u u).value) × T (fits binary64 (dot_c u u).value)
  unfolding dot_c
  dot_self =
      let xy = add binary64 (mul binary64 u.x u.x) (mul binary64 u.y u.y) in (
        sum_plain xy (mul binary64 u.z u.z)
            (sum_plain (mul binary64 u.x u.x) (mul binary64 u.y u.y) (square u.x U.x) (square u.y U.y)
            (pow_finite (suc (k + k)) xy (pow_add_of (k + k) (mul binary64 u.x u.x) (mul binary64 u.y u.y) (omega arith) (product u.x u.x U.x U.x) (product u.y u.y U.y U.y))))
            (square u.z U.z)
            (pow_finite (suc (suc (k + k))) (add binary64 xy (mul binary64 u.z u.z)) (dot3 k k u u K U U)),
        add-fits binary64 xy (mul binary64 u.z u.z),
      )
