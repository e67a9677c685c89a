-- Vectors whose numbers are at most 2 ^ k in magnitude, through the operations on vectors. Assumes
-- nothing.
use Rattle.std.specs.Prelude.{◌≡◌, refl, Bool, true, false, ◌&&◌, cond, ℕ, suc, ◌+◌, ◌≤◌, T, Float}
use Rattle.std.proofs.Common.{arith}
use Rattle.std.specs.Float.Ieee.{binary64, add, sub, mul}
use Rattle.std.specs.Float.Ieee.Fits.{and_i, and_l, and_r}
use Rattle.checked.specs.Refusals.{NOT_FINITE}
use Rattle.checked.specs.Checked.{first, is_finite, nine, within}
use Rattle.vectors.specs.declared.Vec2.{Vec2}
use Rattle.vectors.specs.declared.Vec3.{Vec3}
use Rattle.vectors.specs.Vectors.{is_finite3, within2, within3, plus_c, minus_c, times_c, cross_c, dot_c}
use Rattle.float_bounds.specs.Intervals.{Upto}
use Rattle.float_bounds.specs.Powers.{pow}
use Rattle.float_bounds.proofs.Powers.{pow_finite, pow_wider, pow_mul, pow_add_of, pow_sub, within_pow}

pub record Upto3 (k : ℕ) (v : Vec3) : Type 0 where
  pub x : Upto (pow k) v.x
  pub y : Upto (pow k) v.y
  pub z : Upto (pow k) v.z

-- no refusal of what is finite
pub nine_none : (x : Float) → T (is_finite x) → nine x ≡ 0
unfolding nine
nine_none x h = go (is_finite x) h
  where
    go : (b : Bool) → T b → ◌≡◌ {A = ℕ} (cond b 0 NOT_FINITE) 0
    go true t = refl
    go false t = absurd t

pub none : (a b : ℕ) → a ≡ 0 → b ≡ 0 → first a b ≡ 0
unfolding first
none a b p q = λ i. first (p i) (q i)

pub three_none : (x y z : Float) → T (is_finite x) → T (is_finite y) → T (is_finite z) → first (nine x) (first (nine y) (nine z)) ≡ 0
unfolding first
three_none x y z X Y Z = λ i. first (nine_none x X i) (first (nine_none y Y i) (nine_none z Z i))

pub finite3 : (k : ℕ) (v : Vec3) → Upto3 k v → T (is_finite3 v)
unfolding is_finite3
finite3 k v h =
    and_i (is_finite v.x) (is_finite v.y && is_finite v.z) (pow_finite k v.x h.x)
    (and_i (is_finite v.y) (is_finite v.z) (pow_finite k v.y h.y) (pow_finite k v.z h.z))

pub within_upto3 : (v : Vec3) → T (within3 v) → Upto3 20 v
unfolding within3
within_upto3 v h =
    let r = and_r (within v.x) (within v.y && within v.z) h in
    record { x = within_pow v.x (and_l (within v.x) (within v.y && within v.z) h); y = within_pow v.y (and_l (within v.y) (within v.z) r); z = within_pow v.z (and_r (within v.y) (within v.z) r) }

-- where a point of the plane lies from another
pub apart2 : (c p : Vec2) → T (within2 c) → T (within2 p) → Upto (pow 21) (sub binary64 p.x c.x) × Upto (pow 21) (sub binary64 p.y c.y)
unfolding within2
apart2 c p C P = (
  pow_sub 20 p.x c.x (omega arith) (within_pow p.x (and_l (within p.x) (within p.y) P)) (within_pow c.x (and_l (within c.x) (within c.y) C)),
  pow_sub 20 p.y c.y (omega arith) (within_pow p.y (and_r (within p.x) (within p.y) P)) (within_pow c.y (and_r (within c.x) (within c.y) C)),
)

pub wider3 : (j k : ℕ) (v : Vec3) → j ≤ k → Upto3 j v → Upto3 k v
wider3 j k v h p = record { x = pow_wider j k v.x h p.x; y = pow_wider j k v.y h p.y; z = pow_wider j k v.z h p.z }

pub minus3 : (k : ℕ) (a b : Vec3) → suc k ≤ 1023 → Upto3 k a → Upto3 k b → Upto3 (suc k) (minus_c a b).value
unfolding minus_c
minus3 k a b h p q = record { x = pow_sub k a.x b.x h p.x q.x; y = pow_sub k a.y b.y h p.y q.y; z = pow_sub k a.z b.z h p.z q.z }

pub plus3 : (k : ℕ) (a b : Vec3) → suc k ≤ 1023 → Upto3 k a → Upto3 k b → Upto3 (suc k) (plus_c a b).value
unfolding plus_c
plus3 k a b h p q = record { x = pow_add_of k a.x b.x h p.x q.x; y = pow_add_of k a.y b.y h p.y q.y; z = pow_add_of k a.z b.z h p.z q.z }

pub times3 : (j k : ℕ) (v : Vec3) (s : Float) → j + k ≤ 1023 → Upto3 j v → Upto (pow k) s → Upto3 (j + k) (times_c v s).value
unfolding times_c
times3 j k v s h p q = record { x = pow_mul j k v.x s h p.x q; y = pow_mul j k v.y s h p.y q; z = pow_mul j k v.z s h p.z q }

module _ (j k : ℕ) (a b : Vec3) (h : suc (suc (j + k)) ≤ 1023) (p : Upto3 j a) (q : Upto3 k b) where
  small : j + k ≤ 1023
  small = omega arith

  pub dot3 : Upto (pow (suc (suc (j + k)))) (dot_c a b).value
  unfolding dot_c
  dot3 =
      pow_add_of (suc (j + k)) (add binary64 (mul binary64 a.x b.x) (mul binary64 a.y b.y)) (mul binary64 a.z b.z) h
      (pow_add_of (j + k) (mul binary64 a.x b.x) (mul binary64 a.y b.y) (omega arith) (pow_mul j k a.x b.x small p.x q.x) (pow_mul j k a.y b.y small p.y q.y))
      (pow_wider (j + k) (suc (j + k)) (mul binary64 a.z b.z) (omega arith) (pow_mul j k a.z b.z small p.z q.z))

  pub cross3 : Upto3 (suc (j + k)) (cross_c a b).value
  unfolding cross_c
  cross3 = record {
    x = pow_sub (j + k) (mul binary64 a.y b.z) (mul binary64 a.z b.y) (omega arith) (pow_mul j k a.y b.z small p.y q.z) (pow_mul j k a.z b.y small p.z q.y);
    y = pow_sub (j + k) (mul binary64 a.z b.x) (mul binary64 a.x b.z) (omega arith) (pow_mul j k a.z b.x small p.z q.x) (pow_mul j k a.x b.z small p.x q.z);
    z = pow_sub (j + k) (mul binary64 a.x b.y) (mul binary64 a.y b.x) (omega arith) (pow_mul j k a.x b.y small p.x q.y) (pow_mul j k a.y b.x small p.y q.x);
  }
