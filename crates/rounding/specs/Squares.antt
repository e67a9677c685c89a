-- Squares of whole numbers and their order. Assumes nothing.
use Rattle.std.specs.Prelude.{◌≡◌, ℕ, ◌+◌, ◌-◌, ◌*◌, ◌≤◌, ◌<◌}
use Rattle.std.proofs.Common.{sym, ap, ◌∙◌, le_trans, lt_of_not-le, not-le_of_lt, mul_assoc, mul_left_comm, mul-add, add-mul, mul-le-mul_left, mul-le-mul_right, arith}

pub sq_mono : {a b : ℕ} → a ≤ b → a * a ≤ b * b
sq_mono {a} {b} h = le_trans (mul-le-mul_left a h) (mul-le-mul_right b h)

pub sq_back : (a b : ℕ) → a * a < b * b → a < b
sq_back a b h = lt_of_not-le (λ (g : b ≤ a). not-le_of_lt h (sq_mono g))

pub sq_next : (r : ℕ) → (r + 1) * (r + 1) ≡ r * r + 2 * r + 1
sq_next r = add-mul r 1 (r + 1) ∙ go (mul-add r r 1)
  where
    go : r * (r + 1) ≡ r * r + r * 1 → r * (r + 1) + 1 * (r + 1) ≡ r * r + 2 * r + 1
    go e = omega arith

pub sq_scaled : (a p : ℕ) → a * p * (a * p) ≡ a * a * (p * p)
sq_scaled a p = simp (mul_assoc, mul_left_comm)

pub sq_twice : (r : ℕ) → 2 * r * (2 * r) ≡ 4 * (r * r)
sq_twice r = mul_assoc 2 r (2 * r) ∙ ap (λ (k : ℕ). 2 * k) (mul_left_comm r 2 r) ∙ sym (mul_assoc 2 2 (r * r))

pub sq_pred : (t : ℕ) → 0 < t → (t - 1) * (t - 1) + 2 * t ≡ t * t + 1
sq_pred t h =
    let e = sq_next (t - 1) in
    let f : (t - 1 + 1) * (t - 1 + 1) ≡ t * t = ap (λ (z : ℕ). z * z) (go t h) in
    omega arith
  where
    go : (k : ℕ) → 0 < k → k - 1 + 1 ≡ k
    go k p = omega arith
