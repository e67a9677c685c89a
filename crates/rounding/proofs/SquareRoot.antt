-- What the proof of `sqrt` cites. An x above 0 and finite is m * 2 ^ e / 2 ^ 1126 for the m of 53
-- digits and the e that the code has (`normal`, `subnormal`). Then the root of x, in units of 2 ^
-- -1074, is the root of n * 4 ^ h, with n = m * 2 ^ (52 + e % 2) and h = e / 2 + 485, and the
-- pattern that `root_bits` returns is its (`finish`). Assumes nothing.
use mathlib.Core.Path.{◌≡◌, refl, sym, ap, ◌∙◌, subst}
use mathlib.Core.Logic.{inl, inr}
use mathlib.Core.Bool.{true, false, not, true≢false}
use Prim.Native.Nat.{ℕ, zero, suc, ◌+◌, ◌-◌, ◌*◌, ◌/◌, ◌%◌, ◌^◌, ◌≤◌, ◌<◌}
use native.Mathlib.Nat.{le_trans, le_of_eq, lt_of_lt_of_le, lt_of_le_of_lt, lt_of_not-le, lt_irrefl, le-add_right, zero-add, mul_assoc, mul_right_comm, mul-le-mul_left, mul-le-mul_right, eq_of_mul-eq-mul_right, mod-lt, mod-eq_of_lt}
use native.Mathlib.Omega.{arith}
use lib.IntN.{ℤ}
use lib.Dec.{T, ltb, ltb→lt, lit≤}
use lib.Pow.{pow-add, pow_pos, pow_mono, shl_lt, shl_exact}
use lib.Bits.{bit_and, bit_or, and_mask, or_shifted_r}
use lib.Count.{count_leading_zeros, leading_top}
use lib.Ieee.{Float, nan, inf, fin, binary64, up, down, fits, lt, nan_bits, of_bits, to_bits}
use lib.Ieee.Fits.{down_pos}
use lib.Ieee.Exact.{HasValue}
use Rattle.rounding.specs.Root.{sqrt, round_root}
use Rattle.rounding.specs.NearRoot.{NearRoot}
use Rattle.rounding.proofs.Roots.{round_root_is, near_range}
use Rattle.rounding.specs.Values.{nought}
use Rattle.rounding.proofs.Wholes.{no_less, Flat}
use Rattle.rounding.specs.Patterns.{rescale, units_pattern, pattern_no_nan, bits_lt, read_top, read_low, read_mid, low_pos}

-- ---- the exponents

exponents : (e : ℕ) → 2 ^ e * 4 ^ 1074 ≡ 2 ^ (52 + e % 2) * (2 ^ (e / 2 + 485) * 2 ^ (e / 2 + 485)) * 2 ^ 1126
exponents e =
    let p = 52 + e % 2 in
    let h = e / 2 + 485 in
    sym (pow-add 2 e 2148)
    ∙ ap (λ (k : ℕ). 2 ^ k) (go e)
    ∙ pow-add 2 (p + (h + h)) 1126
    ∙ ap (λ (k : ℕ). k * 2 ^ 1126) (pow-add 2 p (h + h) ∙ ap (λ (k : ℕ). 2 ^ p * k) (pow-add 2 h h))
  where
    go : (k : ℕ) → k + 2148 ≡ 52 + k % 2 + (k / 2 + 485 + (k / 2 + 485)) + 1126
    go k = omega arith

-- x is num / den, and m * 2 ^ e / 2 ^ 1126
pub in_units : (num den m e : ℕ) → num * 2 ^ 1126 ≡ m * 2 ^ e * den → num * 4 ^ 1074 ≡ m * 2 ^ (52 + e % 2) * (2 ^ (e / 2 + 485) * 2 ^ (e / 2 + 485)) * den
in_units num den m e v =
    let a = 2 ^ (52 + e % 2) in
    let b = 2 ^ (e / 2 + 485) * 2 ^ (e / 2 + 485) in
    eq_of_mul-eq-mul_right (2 ^ 1126) (pow_pos 1126) (num * 4 ^ 1074) (m * a * b * den)
    (mul_right_comm num (4 ^ 1074) (2 ^ 1126)
    ∙ ap (λ (k : ℕ). k * 4 ^ 1074) v
    ∙ mul_right_comm (m * 2 ^ e) den (4 ^ 1074)
    ∙ ap (λ (k : ℕ). k * den) (mul_assoc m (2 ^ e) (4 ^ 1074) ∙ ap (λ (k : ℕ). m * k) (exponents e) ∙ sym (mul_assoc m (a * b) (2 ^ 1126)) ∙ ap (λ (k : ℕ). k * 2 ^ 1126) (sym (mul_assoc m a b)))
    ∙ mul_right_comm (m * a * b) (2 ^ 1126) den)

pub n_ge : (m e : ℕ) → 2 ^ 52 ≤ m → 2 ^ 104 ≤ m * 2 ^ (52 + e % 2)
n_ge m e h = le_trans (go m h) (mul-le-mul_left m (pow_mono (more e)))
  where
    go : (k : ℕ) → 2 ^ 52 ≤ k → 2 ^ 104 ≤ k * 2 ^ 52
    go k g = omega arith

    more : (k : ℕ) → 52 ≤ 52 + k % 2
    more k = omega arith

pub n_lt : (m e : ℕ) → m < 2 ^ 53 → m * 2 ^ (52 + e % 2) < 2 ^ 106
n_lt m e h = lt_of_le_of_lt (mul-le-mul_left m (pow_mono (less e))) (go m h)
  where
    go : (k : ℕ) → k < 2 ^ 53 → k * 2 ^ 53 < 2 ^ 106
    go k g = omega arith

    less : (k : ℕ) → 52 + k % 2 ≤ 53
    less k = omega arith

pub h_lt : (e : ℕ) → e < 2098 → suc (suc (e / 2 + 485)) < 2047
h_lt e h = omega arith

-- ---- what `root_bits` returns
abbrev pub Made : ℕ → ℕ → ℕ → Type 0
Made m e r = (t : ℕ) × NearRoot (m * 2 ^ (52 + e % 2)) t × (r ≡ (e / 2 + 485) * 2 ^ 52 + t)

above_root : (x : Float) (a c : ℕ) → T (lt nought x) → HasValue x false a c → (m : ℕ) × (e : ℤ) × (x ≡ fin false m e) × (m * up e * c ≡ a * down e) × (sqrt binary64 x ≡ round_root binary64 (m * up e) (down e))
unfolding lt sqrt
above_root nan a c p v = absurd v
above_root (inf s) a c p v = absurd v
above_root (fin true m e) a c p v = absurd (true≢false v.0)
above_root (fin false zero e) a c p v = absurd (none (up e) (down e) (lt_of (up e) (down e) p))
  where
    lt_of : (u d : ℕ) → T (ltb (0 * d) (0 * u * 1)) → 0 * d < 0 * u * 1
    lt_of u d t = ltb→lt (0 * d) (0 * u * 1) t

    none : (u d : ℕ) → 0 * d < 0 * u * 1 → ⊥
    none u d h = omega arith
above_root (fin false (suc m) e) a c p v = (suc m, e, refl, v.1, refl)

module _ (x : Float) (m e r : ℕ) (P : T (lt nought x)) (val : HasValue x false (m * 2 ^ e) (2 ^ 1126)) (lo : 2 ^ 52 ≤ m) (hi : m < 2 ^ 53) (E : e < 2098) (M : Made m e r) where
  t_in : (2 ^ 52 ≤ M.0) × (M.0 ≤ 2 ^ 53)
  t_in = near_range (m * 2 ^ (52 + e % 2)) M.0 (n_ge m e lo) (n_lt m e hi) M.1

  is_r : 0 + ((e / 2 + 485) * 2 ^ 52 + M.0) ≡ r
  is_r = zero-add ((e / 2 + 485) * 2 ^ 52 + M.0) ∙ sym M.2

  pub made_no_nan : T (not (nan_bits binary64 r))
  made_no_nan = subst (λ (k : ℕ). T (not (nan_bits binary64 k))) is_r (pattern_no_nan binary64 false M.0 (e / 2 + 485) t_in.0 t_in.1 (h_lt e E))

  pub finish : of_bits binary64 r ≡ sqrt binary64 x
  finish =
      let z = above_root x (m * 2 ^ e) (2 ^ 1126) P val in
      sym (z.4
      ∙ round_root_is binary64 (z.0 * up z.1) (down z.1) (m * 2 ^ (52 + e % 2)) (e / 2 + 485) M.0 (down_pos z.1) (in_units (z.0 * up z.1) (down z.1) m e z.3) (n_ge m e lo) (n_lt m e hi) M.1
      ∙ units_pattern binary64 false M.0 (e / 2 + 485) t_in.0 t_in.1 (h_lt e E)
      ∙ ap (of_bits binary64) is_r)

pow_lt_back : (i p : ℕ) → 2 ^ i < 2 ^ p → i < p
pow_lt_back i p h = lt_of_not-le (λ (g : p ≤ i). lt_irrefl (2 ^ i) (lt_of_lt_of_le h (pow_mono g)))

-- ---- m and e, from the pattern b of an x above 0

mask : (b : ℕ) → bit_or (bit_and b (2 ^ 52 - 1)) (2 ^ 52) ≡ 2 ^ 52 + b % 2 ^ 52
mask b = ap (λ (k : ℕ). bit_or k (2 ^ 52)) (and_mask b 52) ∙ or_shifted_r 1 52 (b % 2 ^ 52) (mod-lt b (pow_pos 52))

-- what the code has of x: the value, and the bounds of m and e
pub record Parts (x : Float) (m e : ℕ) : Type 0 where
  pub value : HasValue x false (m * 2 ^ e) (2 ^ 1126)
  pub m_ge : 2 ^ 52 ≤ m
  pub m_lt : m < 2 ^ 53
  pub e_lt : e < 2098

module _ (x : Float) (F : T (fits binary64 x)) (P : T (lt nought x)) where
  abbrev b : ℕ
  b = to_bits binary64 x

  b_lt : b < 2 ^ 63
  b_lt = bits_lt binary64 x F P

  pub field_lt : b / 2 ^ 52 < 2048
  field_lt = go b b_lt
    where
      go : (k : ℕ) → k < 2 ^ 63 → k / 2 ^ 52 < 2048
      go k h = omega arith

  pub infinite : b / 2 ^ 52 ≡ 2047 → x ≡ sqrt binary64 x
  unfolding sqrt
  infinite e = let i = read_top binary64 x F P e in i ∙ sym (ap (sqrt binary64) i)

  up_52 : (k : ℕ) → (2 ^ 52 + b % 2 ^ 52) * 2 ^ (suc k + 51) * 2 ^ 1074 ≡ (2 ^ 52 + b % 2 ^ 52) * 2 ^ k * 2 ^ 1126
  up_52 k =
      let q = 2 ^ 52 + b % 2 ^ 52 in
      mul_assoc q (2 ^ (suc k + 51)) (2 ^ 1074)
      ∙ ap (λ (z : ℕ). q * z) (sym (pow-add 2 (suc k + 51) 1074) ∙ ap (λ (z : ℕ). 2 ^ z) (go k) ∙ pow-add 2 k 1126)
      ∙ sym (mul_assoc q (2 ^ k) (2 ^ 1126))
    where
      go : (z : ℕ) → suc z + 51 + 1074 ≡ z + 1126
      go z = omega arith

  normal_at : (k : ℕ) → b / 2 ^ 52 ≡ suc k → (b / 2 ^ 52 ≡ 2047 → ⊥) → Parts x (2 ^ 52 + b % 2 ^ 52) (suc k + 51)
  normal_at k e n =
      record {
        value = rescale x false ((2 ^ 52 + b % 2 ^ 52) * 2 ^ k) (2 ^ 1074) ((2 ^ 52 + b % 2 ^ 52) * 2 ^ (suc k + 51)) (2 ^ 1126) (pow_pos 1074) (up_52 k) (read_mid binary64 x F P k e (λ z. n (e ∙ z)));
        m_ge = le-add_right (2 ^ 52) (b % 2 ^ 52);
        m_lt = full b;
        e_lt = omega (arith, field_lt);
      }
    where
      full : (z : ℕ) → 2 ^ 52 + z % 2 ^ 52 < 2 ^ 53
      full z = omega arith

  pub normal : (b / 2 ^ 52 ≡ 2047 → ⊥) → (b / 2 ^ 52 ≡ 0 → ⊥) → Parts x (bit_or (bit_and b (2 ^ 52 - 1)) (2 ^ 52)) (b / 2 ^ 52 + 51)
  normal n z = subst (λ (k : ℕ). Parts x k (b / 2 ^ 52 + 51)) (sym (mask b)) (go (b / 2 ^ 52) refl)
    where
      go : (k : ℕ) → b / 2 ^ 52 ≡ k → Parts x (2 ^ 52 + b % 2 ^ 52) (b / 2 ^ 52 + 51)
      go zero e = absurd (z e)
      go (suc k) e = subst (λ (y : ℕ). Parts x (2 ^ 52 + b % 2 ^ 52) (y + 51)) (sym e) (normal_at k e n)

  module _ (none : b / 2 ^ 52 ≡ 0) where
    small : b < 2 ^ 52
    small = go b none
      where
        go : (k : ℕ) → k / 2 ^ 52 ≡ 0 → k < 2 ^ 52
        go k h = omega arith

    digits : b % 2 ^ 52 ≡ b
    digits = mod-eq_of_lt small

    lead : (j : ℕ) × (count_leading_zeros 64 b + suc j ≡ 64) × (2 ^ j ≤ b) × (b < 2 ^ suc j)
    lead = leading_top 64 b (subst (λ (k : ℕ). 0 < k) digits (low_pos binary64 x F P none)) (lt_of_lt_of_le small (lit≤ tt))

    j_lt : lead.0 < 52
    j_lt = pow_lt_back lead.0 52 (lt_of_le_of_lt lead.2 small)

    -- what the code's subtractions and the shift ask of the count of leading zeros
    pub zeros : (11 ≤ count_leading_zeros 64 b) × (count_leading_zeros 64 b ≤ 63)
    zeros = go (count_leading_zeros 64 b) lead.0 lead.1 j_lt
      where
        go : (k j : ℕ) → k + suc j ≡ 64 → j < 52 → (11 ≤ k) × (k ≤ 63)
        go k j h l = omega arith

    shifted : (j : ℕ) → j < 52 → 2 ^ j ≤ b → b < 2 ^ suc j → Parts x (b * 2 ^ (52 - j) % 2 ^ 64) j
    shifted j l lo hi =
        subst (λ (k : ℕ). Parts x k j) (sym (shl_exact (suc j) (52 - j) 64 hi (le_trans (le_of_eq (sum j l)) (lit≤ tt))))
        (record {
          value = rescale x false b (2 ^ 1074) (b * 2 ^ (52 - j) * 2 ^ j) (2 ^ 1126) (pow_pos 1074) scale (subst (λ (k : ℕ). HasValue x false k (2 ^ 1074)) digits (read_low binary64 x F P none));
          m_ge = le_trans (le_of_eq (sym (sym (pow-add 2 j (52 - j)) ∙ ap (λ (k : ℕ). 2 ^ k) (join j l)))) (mul-le-mul_right (2 ^ (52 - j)) lo);
          m_lt = lt_of_lt_of_le (shl_lt (suc j) (52 - j) hi) (pow_mono (le_of_eq (sum j l)));
          e_lt = lt_of_lt_of_le l (lit≤ tt);
        })
      where
        sum : (k : ℕ) → k < 52 → suc k + (52 - k) ≡ 53
        sum k h = omega arith

        join : (k : ℕ) → k < 52 → k + (52 - k) ≡ 52
        join k h = omega arith

        join' : (k : ℕ) → k < 52 → 52 - k + k ≡ 52
        join' k h = omega arith

        scale : b * 2 ^ (52 - j) * 2 ^ j * 2 ^ 1074 ≡ b * 2 ^ 1126
        scale = ap (λ (k : ℕ). k * 2 ^ 1074) (mul_assoc b (2 ^ (52 - j)) (2 ^ j) ∙ ap (λ (k : ℕ). b * k) (sym (pow-add 2 (52 - j) j) ∙ ap (λ (k : ℕ). 2 ^ k) (join' j l))) ∙ mul_assoc b (2 ^ 52) (2 ^ 1074)

    pub subnormal : Parts x (b * 2 ^ (count_leading_zeros 64 b - 11) % 2 ^ 64) (63 - count_leading_zeros 64 b)
    subnormal =
        let j = lead.0 in
        subst (λ (k : ℕ). Parts x (b * 2 ^ k % 2 ^ 64) (63 - count_leading_zeros 64 b)) (by (count_leading_zeros 64 b) j lead.1 j_lt)
        (subst (λ (k : ℕ). Parts x (b * 2 ^ (52 - j) % 2 ^ 64) k) (from (count_leading_zeros 64 b) j lead.1) (shifted j j_lt lead.2 lead.3))
      where
        by : (k j : ℕ) → k + suc j ≡ 64 → j < 52 → 52 - j ≡ k - 11
        by k j h l = omega arith

        from : (k j : ℕ) → k + suc j ≡ 64 → j ≡ 63 - k
        from k j h = omega arith

-- ---- below 0, and a zero or a NaN

pub root_below : (x : Float) → T (lt x nought) → nan ≡ sqrt binary64 x
unfolding lt sqrt
root_below nan p = refl
root_below (inf true) p = refl
root_below (inf false) p = absurd p
root_below (fin false m e) p = absurd (no_less (m * up e) (down e) (ltb→lt (m * up e * 1) (0 * down e) p))
root_below (fin true zero e) p = absurd (no_sum (up e) (down e) (ltb→lt 0 (0 * up e * 1 + 0 * down e) p))
  where
    no_sum : (u d : ℕ) → 0 < 0 * u * 1 + 0 * d → ⊥
    no_sum u d h = omega arith
root_below (fin true (suc m) e) p = refl

pub root_flat : (x : Float) → Flat x → x ≡ sqrt binary64 x
unfolding sqrt
root_flat x (inl e) = e ∙ sym (ap (sqrt binary64) e)
root_flat x (inr (s, e)) = e ∙ sym (ap (sqrt binary64) e)
