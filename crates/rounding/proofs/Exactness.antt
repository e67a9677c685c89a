-- A check of the definitions in `specs/Whole.antt`, for either format: `round f s k 1` there rounds
-- nothing. Of a value that fits, `ceil` and `round_away` are the whole number k itself, with x's
-- sign. And of `specs/Root.antt`: `root n` is the r with r * r ≤ n < (r + 1) * (r + 1). Assumes
-- nothing.
use mathlib.Core.Path.{◌≡◌, refl, sym, ap, ◌∙◌, subst}
use mathlib.Core.Bool.{Bool, true, false, cond}
use Prim.Native.Nat.{ℕ, suc, ◌+◌, ◌-◌, ◌*◌, ◌/◌, ◌^◌, ◌≤◌, ◌<◌}
use native.Mathlib.Nat.{le_trans, le_of_eq, mul-one, mul_comm, add-mul, one-mul, mul-le-mul_left, mul-pos, div-one, add-zero, div-le_self, div-lt_iff_lt-mul, zero-lt-suc}
use native.Mathlib.Omega.{arith}
use lib.IntN.{ℤ, pos, negsuc}
use lib.Dec.{T}
use lib.Pow.{pow_pos}
use lib.Ieee.{Float, fin, Format, prec, up, down, round, fits}
use lib.Ieee.Exact.{HasValue}
use lib.Ieee.Back.{round_whole}
use Rattle.rounding.specs.Whole.{ceil, round_away, floored, ceiled, halved_up}
use Rattle.rounding.specs.Root.{root}
use Rattle.rounding.specs.Values.{fits_small, whole_is}
use Rattle.rounding.specs.Floors.{root_floor}

whole : (f : Format) (s : Bool) (m a k : ℕ) → T (fits f (fin s m (pos a))) → k ≡ m * 2 ^ a → HasValue (round f s k 1) s k 1
whole f s m a k t e =
    subst (λ (z : Float). HasValue z s k 1) (sym (ap (λ (z : ℕ). round f s z 1) e ∙ whole_is f s m a t)) (refl, ap (λ (z : ℕ). z * 1) (sym e))

-- with a fraction the digits are few enough
few : (f : Format) (s : Bool) (m a k : ℕ) → T (fits f (fin s m (negsuc a))) → k ≤ m * 1 + 1 → HasValue (round f s k 1) s k 1
few f s m a k t h = round_whole f s k (go (2 ^ prec f) (fits_small f s m (negsuc a) t))
  where
    go : (p : ℕ) → m < p → k ≤ p
    go p l = omega arith

times : (n d : ℕ) → 0 < d → n ≤ n * d
times n d h = le_trans (le_of_eq (sym (mul-one n))) (mul-le-mul_left n h)

ceiled_le : (n d : ℕ) → 0 < d → ceiled n d ≤ n + 1
ceiled_le n d h =
    let a = times n d h in
    let b : (n + 1) * d ≡ n * d + d = add-mul n 1 d ∙ ap (λ (k : ℕ). n * d + k) (one-mul d) in
    go ((div-lt_iff_lt-mul h).1 (omega arith))
  where
    go : (n + (d - 1)) / d < n + 1 → (n + (d - 1)) / d ≤ n + 1
    go l = omega arith

halved_le : (n d : ℕ) → 0 < d → halved_up n d ≤ n + 1
halved_le n d h =
    let a = times n (2 * d) (mul-pos (zero-lt-suc 1) h) in
    let c : 2 * n ≤ n * (2 * d) = le_trans (le_of_eq (mul_comm 2 n)) (mul-le-mul_left n (twice d h)) in
    let b : (n + 1) * (2 * d) ≡ n * (2 * d) + 2 * d = add-mul n 1 (2 * d) ∙ ap (λ (k : ℕ). n * (2 * d) + k) (one-mul (2 * d)) in
    go ((div-lt_iff_lt-mul (mul-pos (zero-lt-suc 1) h)).1 (omega arith))
  where
    twice : (k : ℕ) → 0 < k → 2 ≤ 2 * k
    twice k l = omega arith

    go : (2 * n + d) / (2 * d) < n + 1 → (2 * n + d) / (2 * d) ≤ n + 1
    go l = omega arith

more : (k n : ℕ) → k ≤ n → k ≤ n + 1
more k n h = omega arith

abbrev ceil_size : Bool → ℕ → ℕ → ℕ
ceil_size s n d = cond s (floored n d) (ceiled n d)

pub ceil_exact : (f : Format) (s : Bool) (m : ℕ) (e : ℤ) → T (fits f (fin s m e)) → HasValue (ceil f (fin s m e)) s (ceil_size s (m * up e) (down e)) 1
unfolding ceil
ceil_exact f true m (pos a) t = whole f true m a (m * 2 ^ a / 1) t (div-one (m * 2 ^ a))
ceil_exact f false m (pos a) t = whole f false m a ((m * 2 ^ a + (1 - 1)) / 1) t (div-one (m * 2 ^ a + 0) ∙ add-zero (m * 2 ^ a))
ceil_exact f true m (negsuc a) t = few f true m a (m * 1 / 2 ^ suc a) t (more (m * 1 / 2 ^ suc a) (m * 1) (div-le_self (m * 1) (2 ^ suc a)))
ceil_exact f false m (negsuc a) t = few f false m a (ceiled (m * 1) (2 ^ suc a)) t (ceiled_le (m * 1) (2 ^ suc a) (pow_pos (suc a)))

half_whole : (n : ℕ) → (2 * n + 1) / 2 ≡ n
half_whole n = omega arith

pub round_exact : (f : Format) (s : Bool) (m : ℕ) (e : ℤ) → T (fits f (fin s m e)) → HasValue (round_away f (fin s m e)) s (halved_up (m * up e) (down e)) 1
unfolding round_away
round_exact f s m (pos a) t = whole f s m a (halved_up (m * 2 ^ a) 1) t (half_whole (m * 2 ^ a))
round_exact f s m (negsuc a) t = few f s m a (halved_up (m * 1) (2 ^ suc a)) t (halved_le (m * 1) (2 ^ suc a) (pow_pos (suc a)))

pub root_is : (n : ℕ) → (root n * root n ≤ n) × (n < (root n + 1) * (root n + 1))
root_is n = root_floor n
