-- The whole part of a root: `root n` is the r with r * r ≤ n < (r + 1) * (r + 1). Assumes nothing.
use Rattle.std.specs.Prelude.{◌≡◌, Bool, true, false, not, cond, ℕ, zero, suc, ◌+◌, ◌*◌, ◌/◌, ◌^◌, ◌≤◌, ◌<◌, T, leb}
use Rattle.std.proofs.Common.{sym, ap, ◌∙◌, zero-le, le_trans, le_of_eq, lt_of_lt_of_le, mul-one, mul-le-mul_left, arith, leb→le, pow_pos}
use Rattle.std.proofs.Math.Nat.{pow-succ'}
use Rattle.std.proofs.Math.Dec.{nleb→lt}
use Rattle.std.specs.Float.Ieee.{size}
use Rattle.std.specs.Float.Ieee.Digits.{size-lt}
use Rattle.rounding.specs.Squares.{sq_twice}
use Rattle.rounding.specs.Root.{digits, root}

-- ---- the whole part of a root

abbrev pub Floor : ℕ → ℕ → Type 0
Floor n r = (r * r ≤ n) × (n < (r + 1) * (r + 1))

-- from the root p of n / 4
step : (n p : ℕ) → Floor (n / 4) p → Floor n (cond (leb ((2 * p + 1) * (2 * p + 1)) n) (2 * p + 1) (2 * p))
step n p h = go (leb ((2 * p + 1) * (2 * p + 1)) n) (leb→le ((2 * p + 1) * (2 * p + 1)) n) (nleb→lt ((2 * p + 1) * (2 * p + 1)) n)
  where
    a : 2 * p * (2 * p) ≡ 4 * (p * p)
    a = sq_twice p

    lo : 2 * p * (2 * p) ≤ n
    lo = omega (arith, a, h.0)

    b : (2 * p + 1 + 1) * (2 * p + 1 + 1) ≡ 4 * ((p + 1) * (p + 1))
    b = ap (λ (k : ℕ). k * k) (twice p) ∙ sq_twice (p + 1)
      where
        twice : (k : ℕ) → 2 * k + 1 + 1 ≡ 2 * (k + 1)
        twice k = omega arith

    hi : n < (2 * p + 1 + 1) * (2 * p + 1 + 1)
    hi = omega (arith, b, h.1)

    go : (t : Bool) → (T t → (2 * p + 1) * (2 * p + 1) ≤ n) → (T (not t) → n < (2 * p + 1) * (2 * p + 1)) → Floor n (cond t (2 * p + 1) (2 * p))
    go true l g = (l tt, hi)
    go false l g = (lo, g tt)

quarter : (n p q : ℕ) → q * q ≡ 4 * (p * p) → n < q * q → n / 4 < p * p
quarter n p q e h = omega arith

digits_floor : (k n : ℕ) → n < 2 ^ k * 2 ^ k → Floor n (digits k n)
unfolding digits
digits_floor zero n h = (zero-le, h)
digits_floor (suc k) n h =
    step n (digits k (n / 4))
    (digits_floor k (n / 4) (quarter n (2 ^ k) (2 ^ suc k) (ap (λ (z : ℕ). z * z) (pow-succ' 2 k) ∙ sq_twice (2 ^ k)) h))

pub root_floor : (n : ℕ) → Floor n (root n)
unfolding root
root_floor n = digits_floor (size n) n (lt_of_lt_of_le (size-lt n) (le_trans (le_of_eq (sym (mul-one (2 ^ size n)))) (mul-le-mul_left (2 ^ size n) (pow_pos (size n)))))
