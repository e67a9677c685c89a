-- When two floats that fit are the same, what a zero is, and that sums pick the sign of a zero as the least and the greatest do.
use Rattle.std.specs.Prelude.{◌≡◌, refl, ◌⊎◌, Bool, ◌||◌, cond, ℕ, zero, suc, ◌+◌, ◌*◌, ◌/◌, ◌-◌, ◌^◌, ◌<◌, ℤ, pos, negsuc, eqb, Float}
use Rattle.std.proofs.Common.{sym, ◌∙◌, ap, subst, inl, inr, mul_comm, mul_right_comm, mul-pos, mul-one, one-mul, zero-mul, arith, eqb→eq}
use Rattle.std.proofs.Math.Bool.{true, false}
use Rattle.std.specs.Bool.{beq}
use Rattle.std.proofs.Math.Nat.{mul-div-mul_right}
use Rattle.std.proofs.Math.Dec.{T}
use Rattle.std.proofs.Math.Pow.{pow-lt}
use Rattle.std.specs.Float.{nan, inf, fin, Format}
use Rattle.std.specs.Float.Ieee.{binary64, prec, low, top, hid, up, down, size, lt, eq, neg, add, sub, fits, of_bits, to_bits, is_nan}
use Rattle.std.specs.Float.Ieee.Fits.{up_pos, down_pos, and_i, and_l, and_r, eq→eqb}
use Rattle.std.specs.Float.Ieee.Bits.{of_bits-to_bits}
use Rattle.order.specs.Least.{negative, lower, upper, least, greatest}
use Rattle.order.specs.Order.{neither, holds, fails, or_r, or_cases, eq_sym}

beq_same : (s t : Bool) → T (beq s t) → s ≡ t
beq_same true true h = refl
beq_same true false h = absurd h
beq_same false true h = absurd h
beq_same false false h = refl

-- ---- equal, and of like sign: the same
whole_same : (x dx y dy l : ℕ) → 0 < dx → 0 < dy → x * dy ≡ y * dx → x * l / dx ≡ y * l / dy
whole_same x dx y dy l X Y e =
    sym (mul-div-mul_right (x * l) dx Y)
    ∙ (ap (λ (n : ℕ). n / (dx * dy)) (mul_right_comm x l dy ∙ (ap (λ (n : ℕ). n * l) e ∙ mul_right_comm y dx l))
    ∙ (ap (λ (n : ℕ). y * l * dx / n) (mul_comm dx dy) ∙ mul-div-mul_right (y * l) dy X))

same_bits : (f : Format) (s : Bool) (m : ℕ) (e : ℤ) (n : ℕ) (d : ℤ) → m * up e * down d ≡ n * up d * down e → to_bits f (fin s m e) ≡ to_bits f (fin s n d)
unfolding to_bits
same_bits f s m e n d h =
    ap (λ (w : ℕ). cond s (top f) 0 + (size w - prec f) * hid f + w / 2 ^ (size w - prec f))
    (whole_same (m * up e) (down e) (n * up d) (down d) (2 ^ low f) (down_pos e) (down_pos d) h)

by_bits : (f : Format) (x y : Float) → T (fits f x) → T (fits f y) → to_bits f x ≡ to_bits f y → x ≡ y
by_bits f x y X Y h = sym (of_bits-to_bits f x X) ∙ (ap (of_bits f) h ∙ of_bits-to_bits f y Y)

pub same : (f : Format) (x y : Float) → T (fits f x) → T (fits f y) → T (eq x y) → negative x ≡ negative y → x ≡ y
unfolding eq negative
same f nan y X Y h s = absurd h
same f (inf s) nan X Y h e = absurd h
same f (inf s) (inf t) X Y h e = ap inf e
same f (inf s) (fin t n d) X Y h e = absurd h
same f (fin s m e) nan X Y h q = absurd h
same f (fin s m e) (inf t) X Y h q = absurd h
same f (fin s m e) (fin t n d) X Y h q =
    by_bits f (fin s m e) (fin t n d) X Y
    (same_bits f s m e n d (eqb→eq (m * up e * down d) (n * up d * down e) (and_l (eqb (m * up e * down d) (n * up d * down e)) (beq s t || eqb (m * up e * down d) 0) h))
    ∙ ap (λ (b : Bool). to_bits f (fin b n d)) q)

-- ---- a zero
abbrev pub zero_of : Bool → Float
zero_of s = fin s 0 (pos 0)

unit_power : (e : ℤ) → up e * down e ≡ 1 → e ≡ pos 0
unit_power (pos zero) h = refl
unit_power (pos (suc k)) h = absurd (above_one k (sym (mul-one (2 ^ suc k)) ∙ h))
  where
    above_one : (k : ℕ) → 2 ^ suc k ≡ 1 → ⊥
    above_one k e = omega (arith, pow-lt {i = 0} {j = suc k} (omega arith))
unit_power (negsuc k) h = absurd (above_one k (sym (one-mul (2 ^ suc k)) ∙ h))
  where
    above_one : (k : ℕ) → 2 ^ suc k ≡ 1 → ⊥
    above_one k e = omega (arith, pow-lt {i = 0} {j = suc k} (omega arith))

pub zero_is : (f : Format) (x : Float) (t : Bool) → T (fits f x) → T (eq x (zero_of t)) → x ≡ zero_of (negative x)
unfolding fits eq negative
zero_is f nan t X h = absurd h
zero_is f (inf s) t X h = absurd h
zero_is f (fin s zero e) t X h = ap (λ (k : ℤ). fin s 0 k) (unit_power e (eqb→eq (up e * down e) 1 X))
zero_is f (fin s (suc m) e) t X h =
    absurd (positive (suc m * up e * 1) (0 * down e) (mul-pos (mul-pos (omega arith) (up_pos e)) (omega arith)) (zero-mul (down e))
    (eqb→eq (suc m * up e * 1) (0 * down e) (and_l (eqb (suc m * up e * 1) (0 * down e)) (beq s t || eqb (suc m * up e * 1) 0) h)))
  where
    positive : (a b : ℕ) → 0 < a → b ≡ 0 → a ≡ b → ⊥
    positive a b p z e = omega arith

other_zero : (a b : Float) → T (fits binary64 a) → T (fits binary64 b) → eq a (zero_of false) ≡ true → eq a b ≡ true → b ≡ zero_of (negative b)
other_zero a b A B z e =
    zero_is binary64 b (negative a) B
    (eq_sym (zero_of (negative a)) b (rw (zero_is binary64 a false A (holds (eq a (zero_of false)) z)) at (holds (eq a b) e)))

zero_eq : (s : Bool) (m : ℕ) (e : ℤ) → m * up e ≡ 0 → T (eq (fin s m e) (zero_of false))
unfolding eq
zero_eq s m e h =
    let a : m * up e * 1 ≡ 0 = mul-one (m * up e) ∙ h in
    and_i (eqb (m * up e * 1) (0 * down e)) (beq s false || eqb (m * up e * 1) 0) (eq→eqb (a ∙ sym (zero-mul (down e)))) (or_r (beq s false) (eqb (m * up e * 1) 0) (eq→eqb a))

-- equal and not zero: of like sign
pub like_signs : (a b : Float) → eq a (zero_of false) ≡ false → T (eq a b) → negative a ≡ negative b
unfolding eq negative
like_signs nan b z h = absurd h
like_signs (inf s) nan z h = absurd h
like_signs (inf s) (inf t) z h = beq_same s t h
like_signs (inf s) (fin t n d) z h = absurd h
like_signs (fin s m e) nan z h = absurd h
like_signs (fin s m e) (inf t) z h = absurd h
like_signs (fin s m e) (fin t n d) z h =
    let a = m * up e * down d in
    go (or_cases (beq s t) (eqb a 0) (and_r (eqb a (n * up d * down e)) (beq s t || eqb a 0) h))
  where
    no_product : (x k : ℕ) → 0 < k → x * k ≡ 0 → x ≡ 0
    no_product zero k K e = refl
    no_product (suc x) k K e = absurd (clash (suc x * k) (mul-pos (omega arith) K) e)
      where
        clash : (w : ℕ) → 0 < w → w ≡ 0 → ⊥
        clash w p q = omega arith

    go : T (beq s t) ⊎ T (eqb (m * up e * down d) 0) → s ≡ t
    go (inl b) = beq_same s t b
    go (inr w) = absurd (subst T z (zero_eq s m e (no_product (m * up e) (down d) (down_pos d) (eqb→eq (m * up e * down d) 0 w))))

-- -(-a - b) and a + b
pub low_zero : (s t : Bool) → neg (sub binary64 (neg (zero_of s)) (zero_of t)) ≡ cond s (zero_of s) (zero_of t)
unfolding neg sub
low_zero true true = refl
low_zero true false = refl
low_zero false true = refl
low_zero false false = refl

pub high_zero : (s t : Bool) → add binary64 (zero_of s) (zero_of t) ≡ cond s (zero_of t) (zero_of s)
unfolding add
high_zero true true = refl
high_zero true false = refl
high_zero false true = refl
high_zero false false = refl

-- where either is `nan`, so is the sum
nan_add : (f : Format) (x y : Float) → T (is_nan x || is_nan y) → add f x y ≡ nan
unfolding add is_nan
nan_add f nan y h = refl
nan_add f (inf s) nan h = refl
nan_add f (inf s) (inf t) h = absurd h
nan_add f (inf s) (fin t n d) h = absurd h
nan_add f (fin s m e) nan h = refl
nan_add f (fin s m e) (inf t) h = absurd h
nan_add f (fin s m e) (fin t n d) h = absurd h

-- ---- what code does with two that are not apart is what the definitions pick
neither_l : (p q : Bool) → (p || q) ≡ false → p ≡ false
neither_l true q h = h
neither_l false q h = refl

neither_r : (p q : Bool) → (p || q) ≡ false → q ≡ false
neither_r true true h = h
neither_r true false h = refl
neither_r false q h = h

module _ (a b : Float) (not-apart : (lt a b || lt b a) ≡ false) where
  not_below : lt a b ≡ false
  not_below = neither_l (lt a b) (lt b a) not-apart

  not_above : lt b a ≡ false
  not_above = neither_r (lt a b) (lt b a) not-apart

  least_lower : eq a b ≡ true → least a b ≡ lower a b
  unfolding least
  least_lower e = simp (not_below, not_above, e)

  greatest_upper : eq a b ≡ true → greatest a b ≡ upper a b
  unfolding greatest
  greatest_upper e = simp (not_below, not_above, e)

  -- two that no comparison joins: one is `nan`, and so is the sum
  one_is_nan : eq a b ≡ false → T (is_nan a || is_nan b)
  one_is_nan e = decide (is_nan a) (is_nan b) refl refl
    where
      decide : (p q : Bool) → is_nan a ≡ p → is_nan b ≡ q → T (p || q)
      decide true q A B = tt
      decide false true A B = tt
      decide false false A B = neither a b (fails (is_nan a) A) (fails (is_nan b) B) not_below not_above e

  pub least_nan : eq a b ≡ false → add binary64 a b ≡ least a b
  unfolding least
  least_nan e = simp (not_below, not_above, e) (nan_add binary64 a b (one_is_nan e))

  pub greatest_nan : eq a b ≡ false → add binary64 b a ≡ greatest a b
  unfolding greatest
  greatest_nan e = simp (not_below, not_above, e) (nan_add binary64 b a (swap (is_nan a) (is_nan b) (one_is_nan e)))
    where
      swap : (p q : Bool) → T (p || q) → T (q || p)
      swap true true h = tt
      swap true false h = tt
      swap false true h = tt
      swap false false h = h

  module _ (A : T (fits binary64 a)) (B : T (fits binary64 b)) (equal : eq a b ≡ true) where
    pub least_zeros : eq a (zero_of false) ≡ true → neg (sub binary64 (neg a) b) ≡ least a b
    unfolding negative
    least_zeros z = rw (least_lower equal) (zeros (negative a) (negative b) (zero_is binary64 a false A (holds (eq a (zero_of false)) z)) (other_zero a b A B z equal))
      where
        zeros : (s t : Bool) → a ≡ zero_of s → b ≡ zero_of t → neg (sub binary64 (neg a) b) ≡ lower a b
        zeros s t p q = rw (p, q) (low_zero s t)

    pub greatest_zeros : eq a (zero_of false) ≡ true → add binary64 a b ≡ greatest a b
    unfolding negative
    greatest_zeros z = rw (greatest_upper equal) (zeros (negative a) (negative b) (zero_is binary64 a false A (holds (eq a (zero_of false)) z)) (other_zero a b A B z equal))
      where
        zeros : (s t : Bool) → a ≡ zero_of s → b ≡ zero_of t → add binary64 a b ≡ upper a b
        zeros s t p q = rw (p, q) (high_zero s t)

    -- equal and no zeros: the same
    same_of : eq a (zero_of false) ≡ false → a ≡ b
    same_of z = same binary64 a b A B (holds (eq a b) equal) (like_signs a b z (holds (eq a b) equal))

    pub least_equals : eq a (zero_of false) ≡ false → a ≡ least a b
    least_equals z = rw (least_lower equal) (either (negative a) (same_of z))
      where
        either : (s : Bool) → a ≡ b → a ≡ cond s a b
        either true h = refl
        either false h = h

    pub greatest_equals : eq a (zero_of false) ≡ false → a ≡ greatest a b
    greatest_equals z = rw (greatest_upper equal) (either (negative a) (same_of z))
      where
        either : (s : Bool) → a ≡ b → a ≡ cond s b a
        either true h = h
        either false h = refl
