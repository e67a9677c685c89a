-- What `nearest_whole` computes. From 2 ^ 52 to 2 ^ 53 the values of an f64 are the whole numbers,
-- so x + 2 ^ 52 is rounded to one that is at most a half away (`whole_sum`), and taking 2 ^ 52 away
-- again rounds nothing (`near_small`). Assumes nothing.
use mathlib.Core.Path.{◌≡◌, refl, sym, ap, ◌∙◌, subst}
use mathlib.Core.Bool.{false}
use Prim.Native.Nat.{ℕ, ◌+◌, ◌-◌, ◌*◌, ◌/◌, ◌%◌, ◌^◌, ◌≤◌, ◌<◌, compare, Ordering}
use native.Mathlib.Nat.{le_trans, le_of_eq, lt_of_lt_of_le, mul-one, one-mul, mul_assoc, mul_right_comm, mul-pos, mul-le-mul_right, mul-lt-mul_of_pos_right, lt_of_mul-lt-mul_right, le_of_mul-le-mul_right, suc-mul, add-mul, zero-lt-suc, div-lt_iff_lt-mul, le-div_iff_mul-le, div-add-mod', mod-lt}
use native.Mathlib.Omega.{arith}
use lib.IntN.{ℤ, pos}
use lib.Dec.{lit≤}
use lib.Pow.{pow-add, pow_pos}
use lib.Ieee.{Float, fin, binary64, up, down, size, nearest, units, round, add, sub, of_int}
use lib.Ieee.Fits.{down_pos, round_is, core}
use lib.Ieee.Exact.{HasValue, units_val}
use Rattle.rounding.specs.Whole.{Near}
use Rattle.rounding.specs.Values.{sub_wholes}
use Rattle.rounding.specs.Patterns.{rescale}
use Rattle.rounding.proofs.Roots.{Cmp, cmp, size_is}

abbrev pub big : Float
big = fin false 1 (pos 52)

-- ---- a / u to the nearest whole number is at most a half away

one_at_most : (q : ℕ) → q % 2 ≤ 1
one_at_most q = omega arith

module _ (a u : ℕ) (U : 0 < u) where
  split : a / u * u + a % u ≡ a
  split = div-add-mod' a u

  rest : a % u < u
  rest = mod-lt a U

  half_away : (o : Ordering) → Cmp o (a % u * 2) u → (2 * a ≤ 2 * (nearest (a / u) o * u) + u) × (2 * (nearest (a / u) o * u) ≤ 2 * a + u)
  half_away Ordering.lt c = (omega (arith, split), omega (arith, split))
  half_away Ordering.gt c = let s = suc-mul (a / u) u in (omega (arith, split, rest), omega (arith, split, rest))
  half_away Ordering.eq c =
      let s = add-mul (a / u) (a / u % 2) u in
      let t : a / u % 2 * u ≤ 1 * u = mul-le-mul_right u (one_at_most (a / u)) in
      (omega (arith, split), omega (arith, split))

-- ---- a fraction from 2 ^ 52 up and below 2 ^ 53 is rounded to a whole number

pub record Rounded (n d k : ℕ) : Type 0 where
  pub value : HasValue (round binary64 false n d) false k 1
  pub under : 2 * n ≤ 2 * (k * d) + d
  pub over : 2 * (k * d) ≤ 2 * n + d

module _ (n d : ℕ) (D : 0 < d) (lo : 2 ^ 52 * d ≤ n) (hi : n < 2 ^ 53 * d) where
  P : 0 < 2 ^ 1074
  P = pow_pos 1074

  dropped : size (n * 2 ^ 1074 / d) - 53 ≡ 1074
  dropped =
      size_is 53 1074 (n * 2 ^ 1074 / d) (zero-lt-suc 52)
      ((le-div_iff_mul-le D).1 (le_trans (le_of_eq (ap (λ (z : ℕ). z * d) (pow-add 2 52 1074) ∙ mul_right_comm (2 ^ 52) (2 ^ 1074) d)) (mul-le-mul_right (2 ^ 1074) lo)))
      ((div-lt_iff_lt-mul D).1 (lt_of_lt_of_le (mul-lt-mul_of_pos_right hi P) (le_of_eq (mul_right_comm (2 ^ 53) d (2 ^ 1074) ∙ ap (λ (z : ℕ). z * d) (sym (pow-add 2 53 1074))))))

  abbrev k : ℕ
  k = nearest (n * 2 ^ 1074 / (d * 2 ^ 1074)) (compare (n * 2 ^ 1074 % (d * 2 ^ 1074) * 2) (d * 2 ^ 1074))

  away : (2 * (n * 2 ^ 1074) ≤ 2 * (k * (d * 2 ^ 1074)) + d * 2 ^ 1074) × (2 * (k * (d * 2 ^ 1074)) ≤ 2 * (n * 2 ^ 1074) + d * 2 ^ 1074)
  away =
      half_away (n * 2 ^ 1074) (d * 2 ^ 1074) (mul-pos D P) (compare (n * 2 ^ 1074 % (d * 2 ^ 1074) * 2) (d * 2 ^ 1074))
      (cmp (n * 2 ^ 1074 % (d * 2 ^ 1074) * 2) (d * 2 ^ 1074))

  -- without the factor 2 ^ 1074
  twice : (a : ℕ) → 2 * (a * 2 ^ 1074) ≡ 2 * a * 2 ^ 1074
  twice a = sym (mul_assoc 2 a (2 ^ 1074))

  twice_k : 2 * (k * (d * 2 ^ 1074)) ≡ 2 * (k * d) * 2 ^ 1074
  twice_k = ap (λ (z : ℕ). 2 * z) (sym (mul_assoc k d (2 ^ 1074))) ∙ twice (k * d)

  lower : 2 * n ≤ 2 * (k * d) + d
  lower = le_of_mul-le-mul_right (le_trans (le_of_eq (sym (twice n))) (le_trans away.0 (le_of_eq (ap (λ (z : ℕ). z + d * 2 ^ 1074) twice_k ∙ sym (add-mul (2 * (k * d)) d (2 ^ 1074)))))) P

  upper : 2 * (k * d) ≤ 2 * n + d
  upper = le_of_mul-le-mul_right (le_trans (le_of_eq (sym twice_k)) (le_trans away.1 (le_of_eq (ap (λ (z : ℕ). z + d * 2 ^ 1074) (twice n) ∙ sym (add-mul (2 * n) d (2 ^ 1074)))))) P

  k_lt : k < 2 ^ 53 + 1
  k_lt = lt_of_mul-lt-mul_right d (go (k * d) (2 ^ 53 * d) ((2 ^ 53 + 1) * d) upper (add-mul (2 ^ 53) 1 d) (one-mul d) hi)
    where
      go : (a b c : ℕ) → 2 * a ≤ 2 * n + d → c ≡ b + 1 * d → 1 * d ≡ d → n < b → a < c
      go a b c x y z w = omega arith

  room : k * 2 ^ 1074 < 2 ^ 2098
  room = lt_of_lt_of_le (mul-lt-mul_of_pos_right k_lt P) (lit≤ tt)

  pub whole_sum : (j : ℕ) × Rounded n d j
  whole_sum = (
    k,
    record {
      value =
          subst (λ (v : Float). HasValue v false k 1) (sym (round_is binary64 false n d ∙ ap (core binary64 false (n * 2 ^ 1074) d) dropped))
          (rescale (units binary64 false k 1074) false (k * 2 ^ 1074) (2 ^ 1074) k 1 P (sym (mul-one (k * 2 ^ 1074))) (units_val binary64 false k 1074 room));
      under = lower;
      over = upper;
    },
  )

-- ---- of a value above 0 and below 2 ^ 52
module _ (m : ℕ) (e : ℤ) (h : m * up e < 2 ^ 52 * down e) where
  abbrev n' : ℕ
  n' = m * up e * 1 + 1 * 2 ^ 52 * down e

  abbrev d' : ℕ
  d' = down e * 1

  some : (j : ℕ) × Rounded n' d' j
  some = whole_sum n' d' (pos_one (down e) (down_pos e)) (from (m * up e) (down e)) (below (m * up e) (down e) h)
    where
      pos_one : (d : ℕ) → 0 < d → 0 < d * 1
      pos_one d g = omega arith

      from : (n d : ℕ) → 2 ^ 52 * (d * 1) ≤ n * 1 + 1 * 2 ^ 52 * d
      from n d = omega arith

      below : (n d : ℕ) → n < 2 ^ 52 * d → n * 1 + 1 * 2 ^ 52 * d < 2 ^ 53 * (d * 1)
      below n d g = omega arith

  abbrev j : ℕ
  j = some.0

  same : j * d' ≡ j * down e
  same = ap (λ (z : ℕ). j * z) (mul-one (down e))

  j_ge : 2 ^ 52 ≤ j
  j_ge = down_one (2 ^ 52) j (lt_of_mul-lt-mul_right (down e) (go (m * up e) (down e) (j * d') (j * down e) ((j + 1) * down e) (down_pos e) same some.1.under (add-mul j 1 (down e)) (one-mul (down e))))
    where
      down_one : (a b : ℕ) → a < b + 1 → a ≤ b
      down_one a b g = omega arith

      go : (n d a b c : ℕ) → 0 < d → a ≡ b → 2 * (n * 1 + 1 * 2 ^ 52 * d) ≤ 2 * a + d * 1 → c ≡ b + 1 * d → 1 * d ≡ d → 2 ^ 52 * d < c
      go n d a b c x y z w v = omega arith

  apart : j * down e ≡ (j - 2 ^ 52) * down e + 2 ^ 52 * down e
  apart = ap (λ (z : ℕ). z * down e) (back j j_ge) ∙ add-mul (j - 2 ^ 52) (2 ^ 52) (down e)
    where
      back : (a : ℕ) → 2 ^ 52 ≤ a → a ≡ a - 2 ^ 52 + 2 ^ 52
      back a g = omega arith

  pub near_small : (k : ℕ) × (sub binary64 (add binary64 (fin false m e) big) big ≡ of_int binary64 (pos k)) × Near (fin false m e) k
  unfolding add of_int
  near_small = (
    j - 2 ^ 52,
    sub_wholes binary64 (round binary64 false n' d') big j (2 ^ 52) j_ge some.1.value (refl, refl),
    (under (m * up e) (down e) (j * d') (j * down e) ((j - 2 ^ 52) * down e) same some.1.under apart, over (m * up e) (down e) (j * d') (j * down e) ((j - 2 ^ 52) * down e) same some.1.over apart),
  )
    where
      under : (n d a b c : ℕ) → a ≡ b → 2 * (n * 1 + 1 * 2 ^ 52 * d) ≤ 2 * a + d * 1 → b ≡ c + 2 ^ 52 * d → 2 * n ≤ 2 * c + d
      under n d a b c x y z = omega arith

      over : (n d a b c : ℕ) → a ≡ b → 2 * a ≤ 2 * (n * 1 + 1 * 2 ^ 52 * d) + d * 1 → b ≡ c + 2 ^ 52 * d → 2 * c ≤ 2 * n + d
      over n d a b c x y z = omega arith
