-- The next digits of a root, which the proof of `nearest_root` cites. Assumes nothing.
use mathlib.Core.Path.{◌≡◌, sym, ap, ◌∙◌}
use Prim.Native.Nat.{ℕ, ◌+◌, ◌-◌, ◌*◌, ◌/◌, ◌%◌, ◌^◌, ◌≤◌, ◌<◌}
use native.Mathlib.Nat.{lt_of_le_of_lt, mul_comm, mul_assoc, mul_left_comm, mul-add, add-mul, mul-le-mul_right, div-le_of_le-mul, div-add-mod'}
use native.Mathlib.Omega.{arith}
use Rattle.rounding.specs.NearRoot.{NearRoot}
use Rattle.rounding.specs.Squares.{sq_mono, sq_back, sq_next, sq_scaled, sq_pred}

down_one : (a b : ℕ) → a < b + 1 → a ≤ b
down_one a b h = omega arith

-- ---- the next digits of a root, by a division: n = s * s + x, and x * b = q * (2 * s) + u
next_digits : (n s b x q u : ℕ) → n ≡ s * s + x → x * b ≡ q * (2 * s) + u → n * (b * b) + q * q ≡ (s * b + q) * (s * b + q) + u * b
next_digits n s b x q u h k =
    let e1 : n * (b * b) ≡ s * s * (b * b) + x * (b * b) = ap (λ (z : ℕ). z * (b * b)) h ∙ add-mul (s * s) x (b * b) in
    let e2 : x * (b * b) ≡ q * (2 * s) * b + u * b = sym (mul_assoc x b b) ∙ ap (λ (z : ℕ). z * b) k ∙ add-mul (q * (2 * s)) u b in
    let e3 : (s * b + q) * (s * b + q) ≡ s * b * (s * b + q) + q * (s * b + q) = add-mul (s * b) q (s * b + q) in
    let e4 : s * b * (s * b + q) ≡ s * b * (s * b) + s * b * q = mul-add (s * b) (s * b) q in
    let e5 : q * (s * b + q) ≡ q * (s * b) + q * q = mul-add q (s * b) q in
    let e6 : s * b * (s * b) ≡ s * s * (b * b) = sq_scaled s b in
    let e7 : q * (2 * s) * b ≡ 2 * (s * b * q) = ap (λ (z : ℕ). z * b) (mul_left_comm q 2 s) ∙ mul_assoc 2 (q * s) b ∙ ap (λ (z : ℕ). 2 * z) (mul_assoc q s b ∙ mul_comm q (s * b)) in
    let e8 : q * (s * b) ≡ s * b * q = mul_comm q (s * b) in
    omega arith

-- the body of `nearest_root`, with s for what `whole_root` returned
abbrev pub r_of : ℕ → ℕ → ℕ
r_of n s = (n - s * s) * 67108864

abbrev pub q_of : ℕ → ℕ → ℕ
q_of n s = r_of n s / (2 * s)

abbrev pub u_of : ℕ → ℕ → ℕ
u_of n s = r_of n s % (2 * s)

abbrev pub t_of : ℕ → ℕ → ℕ
t_of n s = s * 67108864 + q_of n s

module _ (n s : ℕ) (lo : 2 ^ 52 ≤ n) (hi : n < 2 ^ 54) (S : s * s ≤ n) (R : n ≤ s * s + 2 * s) where
  root_ge' : 2 ^ 26 ≤ s
  root_ge' =
      let e = sq_next s in
      let a : n < (s + 1) * (s + 1) = omega arith in
      down_one (2 ^ 26) s (sq_back (2 ^ 26) (s + 1) (lt_of_le_of_lt lo a))

  r_le' : (r_of n s) ≤ 2 * s * 67108864
  r_le' = mul-le-mul_right 67108864 (go (s * s) S R)
    where
      go : (k : ℕ) → k ≤ n → n ≤ k + 2 * s → n - k ≤ 2 * s
      go k a b = omega arith

  q_le' : (q_of n s) ≤ 67108864
  q_le' = div-le_of_le-mul (2 * s) r_le'

  d_le' : (q_of n s) * (q_of n s) ≤ 67108864 * 67108864
  d_le' = sq_mono q_le'

  t_ge' : 67108864 * 67108864 ≤ (t_of n s)
  t_ge' = omega (arith, root_ge')

  main : n * 2 ^ 52 + (q_of n s) * (q_of n s) ≡ (t_of n s) * (t_of n s) + (u_of n s) * 67108864
  main = next_digits n s 67108864 (n - s * s) (q_of n s) (u_of n s) (go (s * s) S) (sym (div-add-mod' (r_of n s) (2 * s)))
    where
      go : (k : ℕ) → k ≤ n → n ≡ k + (n - k)
      go k a = omega arith

  pub near_down : (u_of n s) * 67108864 + (t_of n s) ≤ (q_of n s) * (q_of n s) → NearRoot (n * 2 ^ 52) ((t_of n s) - 1)
  near_down h = go (n * 2 ^ 52) ((q_of n s) * (q_of n s)) (t_of n s) ((u_of n s) * 67108864) main h d_le' t_ge' (sq_pred (t_of n s) (omega (arith, t_ge')))
    where
      go : (x d t c : ℕ) → x + d ≡ t * t + c → c + t ≤ d → d ≤ 67108864 * 67108864 → 67108864 * 67108864 ≤ t → (t - 1) * (t - 1) + 2 * t ≡ t * t + 1 → NearRoot x (t - 1)
      go x d t c m a b l e = record { under = omega arith; over = omega arith }
