-- Square roots of whole numbers, and what `round_root` gives: there is one whole number nearest to
-- a root; and where num / den, in squares of the format's unit, is n * 4 ^ h, with a root of n that
-- has prec digits, `round_root` is that whole number times 2 ^ h units. Assumes nothing.
use mathlib.Core.Path.{◌≡◌, refl, sym, ap, ◌∙◌, subst}
use mathlib.Core.Bool.{false, not}
use Prim.Native.Nat.{ℕ, zero, suc, ◌+◌, ◌-◌, ◌*◌, ◌/◌, ◌^◌, ◌≤◌, ◌<◌, zero-le, compare, Ordering}
use native.Mathlib.Nat.{le_trans, le_of_eq, le_antisymm, lt_of_lt_of_le, lt_of_le_of_lt, lt_of_not-le, not-le_of_lt, mul_assoc, mul-suc, suc-mul, mul-pos, mul-le-mul_left, mul-le-mul_right, mul-lt-mul_of_pos_right, lt_of_mul-lt-mul_right, eq_of_mul-eq-mul_right, mul-div_cancel, zero-lt-suc, div-eq_of_lt-le}
use native.Mathlib.Omega.{arith}
use lib.Dec.{T, eqb, leb→le, nleb→lt, is_le, compare_is_eq, eqb→eq, eqb_refl}
use lib.Arith.{lt_of_le-ne}
use lib.Pow.{pow-add, pow_pos, pow_mono}
use lib.Ieee.{Float, Format, prec, low, size, nearest, units}
use lib.Ieee.Digits.{size-lt, size-le}
use lib.Ieee.Fits.{two, two-le_pos}
use Rattle.rounding.specs.NearRoot.{NearRoot}
use Rattle.rounding.specs.Squares.{sq_mono, sq_back, sq_next, sq_scaled, sq_twice, sq_pred}
use Rattle.rounding.specs.Root.{root, round_root}
use Rattle.rounding.specs.Floors.{Floor, root_floor}

-- ---- there is one whole number nearest to a root

pub near_le : (n t u : ℕ) → n ≤ t * t + t → u * u < n + u → u ≤ t
near_le n t zero a b = zero-le
near_le n t (suc u) a b = lt_of_not-le (λ (g : t ≤ u).
    let m : t * suc t ≤ u * suc u = le_trans (mul-le-mul_left t (more t u g)) (mul-le-mul_right (suc u) g) in
    no (u * suc u) (t * suc t) (suc u * suc u) (t * t) m (suc-mul u (suc u)) (mul-suc t t) a b)
  where
    more : (x y : ℕ) → x ≤ y → suc x ≤ suc y
    more x y h = omega arith

    no : (p q r s : ℕ) → q ≤ p → r ≡ p + suc u → q ≡ s + t → n ≤ s + t → r < n + suc u → ⊥
    no p q r s h e f x y = omega arith

pub near_unique : (n t u : ℕ) → NearRoot n t → NearRoot n u → t ≡ u
near_unique n t u a b = le_antisymm (near_le n u t b.under a.over) (near_le n t u a.under b.over)

-- ---- what `compare` says
abbrev pub Cmp : Ordering → ℕ → ℕ → Type 0
Cmp Ordering.lt a b = a < b
Cmp Ordering.eq a b = a ≡ b
Cmp Ordering.gt a b = b < a

pub cmp : (a b : ℕ) → Cmp (compare a b) a b
cmp a b = go (compare a b) (leb→le a b) (nleb→lt a b) (eqb→eq a b) (λ (e : a ≡ b). subst (λ (x : ℕ). T (eqb a x)) e (eqb_refl a))
  where
    go : (o : Ordering) → (T (is_le o) → a ≤ b) → (T (not (is_le o)) → b < a) → (T (compare_is_eq o) → a ≡ b) → (a ≡ b → T (compare_is_eq o)) → Cmp o a b
    go Ordering.lt h k e n = lt_of_le-ne (h tt) n
    go Ordering.eq h k e n = e tt
    go Ordering.gt h k e n = k tt

-- q, the whole part of the root, or one more, by the comparison with the middle, is the nearest
odd_square : (q : ℕ) → (2 * q + 1) * (2 * q + 1) ≡ 4 * (q * q) + 4 * q + 1
odd_square q = sq_next (2 * q) ∙ go (sq_twice q)
  where
    go : 2 * q * (2 * q) ≡ 4 * (q * q) → 2 * q * (2 * q) + 2 * (2 * q) + 1 ≡ 4 * (q * q) + 4 * q + 1
    go e = omega arith

picked : (n q : ℕ) (o : Ordering) → 0 < q → Floor n q → Cmp o (4 * n) ((2 * q + 1) * (2 * q + 1)) → NearRoot n (nearest q o)
picked n q Ordering.lt p h c =
    let s = odd_square q in
    record { under = omega (arith, h.0); over = omega (arith, h.0) }
picked n q Ordering.eq p h c = absurd (go (odd_square q))
  where
    go : (2 * q + 1) * (2 * q + 1) ≡ 4 * (q * q) + 4 * q + 1 → ⊥
    go s = omega arith
picked n q Ordering.gt p h c =
    let s = odd_square q in
    let t = sq_next q in
    let u : suc q * suc q ≡ (q + 1) * (q + 1) = ap (λ (k : ℕ). k * k) (one_more q) in
    record { under = omega (arith, h.1); over = omega (arith, h.1) }
  where
    one_more : (k : ℕ) → suc k ≡ k + 1
    one_more k = omega arith

cmp_cancel : (o : Ordering) (a b k : ℕ) → 0 < k → Cmp o (a * k) (b * k) → Cmp o a b
cmp_cancel Ordering.lt a b k K h = lt_of_mul-lt-mul_right k h
cmp_cancel Ordering.eq a b k K h = eq_of_mul-eq-mul_right k K a b h
cmp_cancel Ordering.gt a b k K h = lt_of_mul-lt-mul_right k h

-- ---- the root of n * 4 ^ h has the digits of n's root, and h more

pub size_is : (p h w : ℕ) → 0 < p → 2 ^ (p - 1 + h) ≤ w → w < 2 ^ (p + h) → size w - p ≡ h
size_is p h w P lo hi = go (size w) (size-le w (p + h) hi) (lt_of_not-le (λ (g : size w ≤ p - 1 + h). not-le_of_lt (lt_of_lt_of_le (size-lt w) (pow_mono g)) lo))
  where
    go : (z : ℕ) → z ≤ p + h → p - 1 + h < z → z - p ≡ h
    go z a b = omega arith

here : (k : ℕ) → k < k + 1
here k = omega arith

down_one : (a b : ℕ) → a < b + 1 → a ≤ b
down_one a b h = omega arith

up_one : (a b : ℕ) → a < b → a + 1 ≤ b
up_one a b h = omega arith

module _ (p n h s w : ℕ) (P : 0 < p) (S : Floor n s) (W : Floor (n * (2 ^ h * 2 ^ h)) w) (lo : 2 ^ (p - 1) * 2 ^ (p - 1) ≤ n) (hi : n < 2 ^ p * 2 ^ p) where
  s_ge : 2 ^ (p - 1) ≤ s
  s_ge = down_one (2 ^ (p - 1)) s (sq_back (2 ^ (p - 1)) (s + 1) (lt_of_le_of_lt lo S.1))

  s_lt : s < 2 ^ p
  s_lt = sq_back s (2 ^ p) (lt_of_le_of_lt S.0 hi)

  w_ge : s * 2 ^ h ≤ w
  w_ge = down_one (s * 2 ^ h) w (sq_back (s * 2 ^ h) (w + 1) (lt_of_le_of_lt (le_trans (le_of_eq (sq_scaled s (2 ^ h))) (mul-le-mul_right (2 ^ h * 2 ^ h) S.0)) W.1))

  w_lt : w < (s + 1) * 2 ^ h
  w_lt = sq_back w ((s + 1) * 2 ^ h) (lt_of_le_of_lt W.0 (lt_of_lt_of_le (mul-lt-mul_of_pos_right S.1 (mul-pos (pow_pos h) (pow_pos h))) (le_of_eq (sym (sq_scaled (s + 1) (2 ^ h))))))

  kept : w / 2 ^ h ≡ s
  kept = div-eq_of_lt-le (2 ^ h) w_ge w_lt

  dropped : size w - p ≡ h
  dropped =
      size_is p h w P
      (le_trans (le_of_eq (pow-add 2 (p - 1) h)) (le_trans (mul-le-mul_right (2 ^ h) s_ge) w_ge))
      (lt_of_lt_of_le w_lt (le_trans (mul-le-mul_right (2 ^ h) (up_one s (2 ^ p) s_lt)) (le_of_eq (sym (pow-add 2 p h)))))

-- ---- `round_root`, from its n, its w and its k on
abbrev middle : ℕ → ℕ → ℕ
middle q k = (2 * q + 1) * 2 ^ k

abbrev core : Format → ℕ → ℕ → ℕ → ℕ → Float
core f n den w k = units f false (nearest (w / 2 ^ k) (compare (4 * n) (middle (w / 2 ^ k) k * middle (w / 2 ^ k) k * den))) k

round_root_at : (f : Format) (num den : ℕ) → round_root f num den ≡ core f (num * 4 ^ low f) den (root (num * 4 ^ low f / den)) (size (root (num * 4 ^ low f / den)) - prec f)
unfolding round_root
round_root_at f num den = refl

four_times : (n p d : ℕ) → 4 * (n * p * d) ≡ 4 * n * (p * d)
four_times n p d = ap (λ (k : ℕ). 4 * k) (mul_assoc n p d) ∙ sym (mul_assoc 4 n (p * d))

pub round_root_is : (f : Format) (num den n h t : ℕ) → 0 < den → num * 4 ^ low f ≡ n * (2 ^ h * 2 ^ h) * den → 2 ^ (prec f - 1) * 2 ^ (prec f - 1) ≤ n → n < 2 ^ prec f * 2 ^ prec f → NearRoot n t
    → round_root f num den ≡ units f false t h
round_root_is f num den n h t D H lo hi N =
    let p = prec f in
    let P : 0 < p = two-le_pos p (two f) in
    let sq = 2 ^ h * 2 ^ h in
    let s = root n in
    let w = root (n * sq) in
    let S = root_floor n in
    let W = root_floor (n * sq) in
    let o = compare (4 * (num * 4 ^ low f)) (middle s h * middle s h * den) in
    let c : Cmp o (4 * n) ((2 * s + 1) * (2 * s + 1)) =
    cmp_cancel o (4 * n) ((2 * s + 1) * (2 * s + 1)) (sq * den) (mul-pos (mul-pos (pow_pos h) (pow_pos h)) D)
    (subst (λ (k : ℕ). Cmp o k ((2 * s + 1) * (2 * s + 1) * (sq * den))) (ap (λ (k : ℕ). 4 * k) H ∙ four_times n sq den)
    (subst (λ (k : ℕ). Cmp o (4 * (num * 4 ^ low f)) k) (ap (λ (k : ℕ). k * den) (sq_scaled (2 * s + 1) (2 ^ h)) ∙ mul_assoc ((2 * s + 1) * (2 * s + 1)) sq den) (cmp (4 * (num * 4 ^ low f)) (middle s h * middle s h * den)))) in
    round_root_at f num den
    ∙ ap (λ (k : ℕ). core f (num * 4 ^ low f) den (root k) (size (root k) - p)) (ap (λ (k : ℕ). k / den) H ∙ mul-div_cancel (n * sq) D)
    ∙ ap (λ (k : ℕ). core f (num * 4 ^ low f) den w k) (dropped p n h s w P S W lo hi)
    ∙ ap (λ (q : ℕ). units f false (nearest q (compare (4 * (num * 4 ^ low f)) (middle q h * middle q h * den))) h) (kept p n h s w P S W lo hi)
    ∙ ap (λ (q : ℕ). units f false q h) (near_unique n (nearest s o) t (picked n s o (lt_of_lt_of_le (pow_pos (p - 1)) (s_ge p n h s w P S W lo hi)) S c) N)

-- a nearest root of what lies from 2 ^ 104 up and below 2 ^ 106
pub near_range : (n t : ℕ) → 2 ^ 104 ≤ n → n < 2 ^ 106 → NearRoot n t → (2 ^ 52 ≤ t) × (t ≤ 2 ^ 53)
near_range n t lo hi N = (near_le n t (2 ^ 52) N.under (low_end n lo), near_le n (2 ^ 53) t (high_end n hi) N.over)
  where
    low_end : (k : ℕ) → 2 ^ 104 ≤ k → 2 ^ 52 * 2 ^ 52 < k + 2 ^ 52
    low_end k h = omega arith

    high_end : (k : ℕ) → k < 2 ^ 106 → k ≤ 2 ^ 53 * 2 ^ 53 + 2 ^ 53
    high_end k h = omega arith

-- ---- a root has a nearest whole number
pub near_exists : (n : ℕ) → 0 < n → (t : ℕ) × NearRoot n t
near_exists n h =
    let q = root n in
    let o = compare (4 * n) ((2 * q + 1) * (2 * q + 1)) in
    (nearest q o, picked n q o (positive q (root_floor n)) (root_floor n) (cmp (4 * n) ((2 * q + 1) * (2 * q + 1))))
  where
    positive : (q : ℕ) → Floor n q → 0 < q
    positive zero f = absurd (go f.1)
      where
        go : n < 1 → ⊥
        go l = omega arith
    positive (suc q) f = zero-lt-suc q

-- the middles to both sides of t
pub middle_above : (n t : ℕ) → NearRoot n t → 4 * n ≤ (2 * t + 1) * (2 * t + 1)
middle_above n t N =
    let s = odd_square t in
    let a = N.under in
    omega arith

pub middle_below : (n t : ℕ) → 0 < t → NearRoot n t → (2 * t - 1) * (2 * t - 1) ≤ 4 * n
middle_below n t p N =
    let s = sq_pred (2 * t) (double t p) in
    let u = sq_twice t in
    let a = N.over in
    omega arith
  where
    double : (k : ℕ) → 0 < k → 0 < 2 * k
    double k h = omega arith

pub squares_le : {a b : ℕ} → a ≤ b → a * a ≤ b * b
squares_le h = sq_mono h

pub square_of : (a p : ℕ) → a * p * (a * p) ≡ a * a * (p * p)
square_of a p = sq_scaled a p
