-- How far rounding goes: by half of 2 ^ k units of the format's smallest value at most, where the fraction is at most 2 ^ (prec + k) units. For
-- every format and every k; results below the normal numbers are those of k = 0. Assumes nothing.
use Rattle.std.specs.Prelude.{◌≡◌, Bool, not, T, Float}
use Rattle.std.proofs.Common.{sym, ap, ◌∙◌, subst, inl, inr, le_trans, le_of_eq, lt_of_le_of_lt, eq-or-lt_of_le, mul_comm, mul_assoc, mul-pos, mul-le-mul, mul-le-mul_left, mod-lt, div-add-mod', div-lt_iff_lt-mul, one-mul, arith, leb→le, eqb→eq, pow-add, pow_pos, pow_mono}
use Prim.Native.Nat.{ℕ, zero, suc, ◌+◌, ◌-◌, ◌*◌, ◌/◌, ◌%◌, ◌^◌, ◌≤◌, ◌<◌, compare, Ordering}
use Rattle.std.proofs.Math.Nat.{div-div-eq-div-mul}
use Rattle.std.proofs.Math.Dec.{is_le, compare_is_eq, nleb→lt}
use Rattle.std.proofs.Math.Pow.{pow-lt}
use Rattle.std.specs.Float.{Format}
use Rattle.std.specs.Float.Ieee.{prec, emax, low, size, nearest, round}
use Rattle.std.specs.Float.Ieee.Digits.{size-le}
use Rattle.std.specs.Float.Ieee.Fits.{round_is, kept-lt, nearest-le, two, two-le_pos}
use Rattle.std.specs.Float.Ieee.Exact.{HasValue, units_val, round_exact}
use Rattle.std.specs.Float.Ieee.Nearest.{closest}
use Rattle.rounding.specs.Patterns.{rescale}

-- g and a differ by half of b at most
abbrev pub Apart : ℕ → ℕ → ℕ → Type 0
Apart g a b = (g * 2 ≤ a * 2 + b) × (a * 2 ≤ g * 2 + b)

-- ---- to the nearest multiple of b
choice : (q r b : ℕ) (o : Ordering) → r < b → (T (is_le o) → r * 2 ≤ b) → (T (not (is_le o)) → b < r * 2) → (T (compare_is_eq o) → r * 2 ≡ b) → Apart (nearest q o * b) (q * b + r) b
choice q r b Ordering.lt R le gt eq = let h = le tt in (omega arith, omega arith)
choice q r b Ordering.eq R le gt eq = tie (q % 2) (omega arith) (eq tt)
  where
    tie : (j : ℕ) → j ≤ 1 → r * 2 ≡ b → Apart ((q + j) * b) (q * b + r) b
    tie zero J h = (omega arith, omega arith)
    tie (suc zero) J h = (omega arith, omega arith)
    tie (suc (suc j)) J h = absurd (omega arith)
choice q r b Ordering.gt R le gt eq = let h = gt tt in (omega arith, omega arith)

closest_apart : (a b : ℕ) → 0 < b → Apart (closest a b * b) a b
closest_apart a b B =
    subst (λ (n : ℕ). Apart (closest a b * b) n b) (div-add-mod' a b)
    (choice (a / b) (a % b) b (compare (a % b * 2) b) (mod-lt a B) (leb→le (a % b * 2) b) (nleb→lt (a % b * 2) b) (eqb→eq (a % b * 2) b))

-- ---- a / c rounded: how many units it has, and how far c times as many are from a times those in 1
pub record Rounded (f : Format) (s : Bool) (a c k : ℕ) : Type 0 where
  pub has : ℕ
  pub value : HasValue (round f s a c) s has (2 ^ low f)
  pub near : Apart (has * c) (a * 2 ^ low f) (2 ^ k * c)

module _ (f : Format) (s : Bool) (a c k : ℕ) (C : 0 < c) (K : prec f + k < low f + suc (emax f)) where
  abbrev n : ℕ
  n = a * 2 ^ low f

  abbrev top : ℕ
  top = 2 ^ (prec f + k)

  -- exactly 2 ^ (prec + k) units, the power of two at which the numbers lie twice as far apart: it is one of them, so nothing is lost
  at_top : n ≡ top * c → Rounded f s a c k
  at_top e = record {
    has = top;
    value = rescale (round f s a c) s a c top (2 ^ low f) C (sym e)
        (round_exact f s a c 1 (prec f + k) C (pow-lt {i = 0} {j = prec f} (two-le_pos (prec f) (two f)))
        (subst (λ (x : ℕ). x < 2 ^ (low f + suc (emax f))) (sym (one-mul top)) (pow-lt K))
        (e ∙ ap (λ (x : ℕ). x * c) (sym (one-mul top))));
    near = (omega arith, omega arith);
  }

  -- fewer: no more than k digits are dropped
  abbrev d : ℕ
  d = size (n / c) - prec f

  abbrev q : ℕ
  q = closest n (c * 2 ^ d)

  under_top : n < top * c → Rounded f s a c k
  under_top l = record {
    has = q * 2 ^ d;
    value = subst (λ (x : Float). HasValue x s (q * 2 ^ d) (2 ^ low f)) (sym (round_is f s a c)) (units_val f s q d (lt_of_le_of_lt all_le (pow-lt K)));
    near = wider (q * 2 ^ d * c) n (c * 2 ^ d) (2 ^ k * c) (le_trans (mul-le-mul_left c (pow_mono few)) (le_of_eq (mul_comm c (2 ^ k))))
        (subst (λ (x : ℕ). Apart x n (c * 2 ^ d)) (ap (λ (x : ℕ). q * x) (mul_comm c (2 ^ d)) ∙ sym (mul_assoc q (2 ^ d) c)) (closest_apart n (c * 2 ^ d) (mul-pos C (pow_pos d))));
  }
    where
      dropped : (z p : ℕ) → z ≤ p + k → z - p ≤ k
      dropped z p h = omega arith

      few : d ≤ k
      few = dropped (size (n / c)) (prec f) (size-le (n / c) (prec f + k) ((div-lt_iff_lt-mul C).1 l))

      q_le : q ≤ 2 ^ prec f
      q_le = le_trans (nearest-le (n / (c * 2 ^ d)) (compare (n % (c * 2 ^ d) * 2) (c * 2 ^ d))) (subst (λ (x : ℕ). x < 2 ^ prec f) (div-div-eq-div-mul n c (2 ^ d)) (kept-lt (prec f) (n / c)))

      all_le : q * 2 ^ d ≤ top
      all_le = le_trans (mul-le-mul q_le (pow_mono few)) (le_of_eq (sym (pow-add 2 (prec f) k)))

      wider : (g n b b' : ℕ) → b ≤ b' → Apart g n b → Apart g n b'
      wider g n b b' h p = (omega arith, omega arith)

  pub round_near : n ≤ top * c → Rounded f s a c k
  round_near h = elim (eq-or-lt_of_le h) [
    | inl e ↦ at_top e
    | inr l ↦ under_top l
  ]
