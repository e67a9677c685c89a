-- What the proofs of `ceil` and `round` cite, of an x that is above 0 and below 2 ^ 52, of one from
-- 2 ^ 52 up, and of a zero or a NaN. With n / d for the size of x, the code has a whole number k
-- that is at most a half away, and compares x with k, or with k + 1 / 2. Assumes nothing.
use mathlib.Core.Path.{◌≡◌, refl, sym, ap, ◌∙◌, subst}
use mathlib.Core.Logic.{◌⊎◌, inl, inr}
use mathlib.Core.Bool.{Bool, true, false, not, cond, true≢false}
use Prim.Native.Nat.{ℕ, zero, suc, ◌+◌, ◌-◌, ◌*◌, ◌/◌, ◌^◌, ◌≤◌, ◌<◌}
use native.Mathlib.Nat.{le_trans, lt_of_lt_of_le, eq-or-lt_of_le, mul-one, one-mul, add-zero, pow-succ', mul_assoc, mul_left_comm, mul-pos, lt_of_mul-lt-mul_right, zero-lt-suc, zero-mul, suc-mul, add-mul, div-one, div-eq_of_lt-le}
use native.Mathlib.Omega.{arith}
use lib.IntN.{ℤ, pos, negsuc}
use lib.Dec.{T, ltb, ltb→lt, lt→ltb, nltb→le, lit≤}
use lib.Pow.{pow_pos, shl_lt}
use lib.Ieee.{Float, nan, inf, fin, binary64, up, down, round, neg, add, sub, lt, fits, of_int}
use lib.Ieee.Fits.{down_pos, up_pos}
use lib.Ieee.Exact.{HasValue, round_exact}
use lib.Ieee.Scale.{round_same}
use lib.Ieee.Back.{round_whole}
use Rattle.rounding.specs.Whole.{ceil, round_away, halved_up, Near}
use Rattle.rounding.specs.Values.{nought, fits_small, zero_exponent, whole_is, neg_round, lt_values, add_wholes, sub_wholes}
use Rattle.rounding.proofs.NearWhole.{big}

abbrev pub one : Float
one = fin false 1 (pos 0)

abbrev pub half : Float
half = fin false 1 (negsuc 0)

-- ---- plain numbers: k is at most a half away from n / d

next : (k d : ℕ) → (k + 1) * d ≡ k * d + d
next k d = add-mul k 1 d ∙ ap (λ (z : ℕ). k * d + z) (one-mul d)

doubled : (k d : ℕ) → k * (2 * d) ≡ 2 * (k * d)
doubled k d = mul_left_comm k 2 d

middle : (k d : ℕ) → (k * 2 + 1) * d ≡ 2 * (k * d) + d
middle k d = next (k * 2) d ∙ ap (λ (z : ℕ). z + d) (mul_assoc k 2 d ∙ doubled k d)

module _ (n d k : ℕ) (D : 0 < d) (A : 2 * n ≤ 2 * (k * d) + d) (B : 2 * (k * d) ≤ 2 * n + d) where
  ceil_next : k * d < n → (n + (d - 1)) / d ≡ k + 1
  ceil_next l =
      let a = next k d in
      let b = next (k + 1) d in
      div-eq_of_lt-le d (omega arith) (omega arith)

  ceil_same : n ≤ k * d → (n + (d - 1)) / d ≡ k
  ceil_same l =
      let a = next k d in
      div-eq_of_lt-le d (omega arith) (omega arith)

  floor_same : k * d ≤ n → n / d ≡ k
  floor_same l =
      let a = next k d in
      div-eq_of_lt-le d (omega arith) (omega arith)

  floor_less : n < k * d → (1 ≤ k) × (n / d ≡ k - 1)
  floor_less l = go k l B
    where
      go : (j : ℕ) → n < j * d → 2 * (j * d) ≤ 2 * n + d → (1 ≤ j) × (n / d ≡ j - 1)
      go zero l b = absurd (none (zero-mul d))
        where
          none : 0 * d ≡ 0 → ⊥
          none e = omega arith
      go (suc j) l b =
          let a = next j d in
          let s = suc-mul j d in
          let q : n / d ≡ j = div-eq_of_lt-le d (omega arith) (omega arith) in
          (zero-lt-suc j, q ∙ less j)
        where
          less : (i : ℕ) → i ≡ suc i - 1
          less i = omega arith

  half_same : 2 * n < 2 * (k * d) + d → (2 * n + d) / (2 * d) ≡ k
  half_same l =
      let a = next k (2 * d) in
      let b = doubled k d in
      div-eq_of_lt-le (2 * d) (omega arith) (omega arith)

  half_next : 2 * (k * d) + d ≤ 2 * n → (2 * n + d) / (2 * d) ≡ k + 1
  half_next l =
      let a = next k (2 * d) in
      let e = next (k + 1) (2 * d) in
      let b = doubled k d in
      div-eq_of_lt-le (2 * d) (omega arith) (omega arith)

  -- n / d is below 2 ^ 52
  near_le : n < 2 ^ 52 * d → k ≤ 2 ^ 52
  near_le h = down_one k (2 ^ 52) (lt_of_mul-lt-mul_right d (go (next (2 ^ 52) d)))
    where
      go : (2 ^ 52 + 1) * d ≡ 2 ^ 52 * d + d → k * d < (2 ^ 52 + 1) * d
      go e = omega arith

      down_one : (a b : ℕ) → a < b + 1 → a ≤ b
      down_one a b g = omega arith

-- ---- a value above 0 and below 2 ^ 52

abbrev pub Small : Float → Type 0
Small x = (m : ℕ) × (e : ℤ) × (x ≡ fin false m e) × (m * up e < 2 ^ 52 * down e)

tidy : (n d : ℕ) → n * 1 < 1 * 2 ^ 52 * d → n < 2 ^ 52 * d
tidy n d h = omega arith

untidy : (n d : ℕ) → n < 2 ^ 52 * d → n * 1 < 1 * 2 ^ 52 * d
untidy n d h = omega arith

pub small : (x : Float) → T (lt nought x) → T (lt x big) → Small x
unfolding lt
small nan p b = absurd b
small (inf true) p b = absurd p
small (inf false) p b = absurd b
small (fin true m e) p b = absurd p
small (fin false m e) p b = (m, e, refl, tidy (m * up e) (down e) (ltb→lt (m * up e * 1) (1 * 2 ^ 52 * down e) b))

under_big : (m : ℕ) (e : ℤ) → m * up e < 2 ^ 52 * down e → T (lt (fin false m e) big)
unfolding lt
under_big m e h = lt→ltb (m * up e * 1) (1 * 2 ^ 52 * down e) (untidy (m * up e) (down e) h)

-- ---- k + 1 / 2 is exact below 2 ^ 52, and at 2 ^ 52 it is rounded down

four : (w d : ℕ) → w * 2 * (d * 2) ≡ w * d * 4
four w d = mul_assoc w 2 (d * 2) ∙ ap (λ (k : ℕ). w * k) (go d) ∙ sym (mul_assoc w d 4)
  where
    go : (k : ℕ) → 2 * (k * 2) ≡ k * 4
    go k = omega arith

halves : (n d w : ℕ) → n * 1 ≡ w * d → (n * 2 + 1 * d) * 2 ≡ (w * 2 + 1) * (d * 2)
halves n d w h =
    let a = next (w * 2) (d * 2) in
    let b = four w d in
    omega arith

odd_half : (w : ℕ) → w < 2 ^ 52 → w * 2 + 1 < 2 ^ 53
odd_half w h = omega arith

half_exact : (w : ℕ) → w < 2 ^ 52 → HasValue (round binary64 false (w * 2 + 1) 2) false (w * 2 + 1) 2
half_exact w h =
    round_exact binary64 false (w * 2 + 1) 2 (w * 2 + 1) 1073 (zero-lt-suc 1) (odd_half w h)
    (lt_of_lt_of_le (shl_lt 53 1073 (odd_half w h)) (lit≤ tt))
    (sym (mul_assoc (w * 2 + 1) (2 ^ 1073) 2))

add_half : (y : Float) (w : ℕ) → HasValue y false w 1 → w < 2 ^ 52 → HasValue (add binary64 y half) false (w * 2 + 1) 2
unfolding add
add_half nan w v h = absurd v
add_half (inf s) w v h = absurd v
add_half (fin true m e) w v h = absurd (true≢false v.0)
add_half (fin false m e) w v h =
    subst (λ (z : Float). HasValue z false (w * 2 + 1) 2)
    (round_same binary64 false (w * 2 + 1) 2 (m * up e * 2 + 1 * down e) (down e * 2) (zero-lt-suc 1) (mul-pos (down_pos e) (zero-lt-suc 1)) (sym (halves (m * up e) (down e) w v.1)))
    (half_exact w h)

big_half : add binary64 (of_int binary64 (pos (2 ^ 52))) half ≡ big
unfolding add of_int
big_half = refl

-- ---- the arms, for n / d = m * up e / down e and y, the k as a float
module _ (m : ℕ) (e : ℤ) (h : m * up e < 2 ^ 52 * down e) (k : ℕ) (N : Near (fin false m e) k) where
  D : 0 < down e
  D = down_pos e

  abbrev y : Float
  y = of_int binary64 (pos k)

  k_le : k ≤ 2 ^ 52
  k_le = near_le (m * up e) (down e) k D N.0 N.1 h

  y_value : HasValue y false k 1
  unfolding of_int
  y_value = round_whole binary64 false k (le_trans k_le (lit≤ tt))

  y_below : lt y (fin false m e) ≡ ltb (k * down e) (m * up e * 1)
  y_below = lt_values y (fin false m e) k 1 (m * up e) (down e) (zero-lt-suc 0) D y_value (refl, refl)

  y_above : lt (fin false m e) y ≡ ltb (m * up e * 1) (k * down e)
  y_above = lt_values (fin false m e) y (m * up e) (down e) k 1 D (zero-lt-suc 0) (refl, refl) y_value

  flip : {a b : Bool} → a ≡ b → T (not a) → T (not b)
  flip p t = subst (λ (z : Bool). T (not z)) p t

  pub ceil_up : T (lt y (fin false m e)) → add binary64 y one ≡ ceil binary64 (fin false m e)
  unfolding ceil
  ceil_up t =
      let l : k * down e < m * up e = subst (λ (z : ℕ). k * down e < z) (mul-one (m * up e)) (ltb→lt (k * down e) (m * up e * 1) (subst T y_below t)) in
      add_wholes binary64 y one k 1 y_value (refl, refl) ∙ ap (λ (z : ℕ). round binary64 false z 1) (sym (ceil_next (m * up e) (down e) k D N.0 N.1 l))

  pub ceil_stays : T (not (lt y (fin false m e))) → y ≡ ceil binary64 (fin false m e)
  unfolding of_int ceil
  ceil_stays t =
      let l : m * up e ≤ k * down e = subst (λ (z : ℕ). z ≤ k * down e) (mul-one (m * up e)) (nltb→le (k * down e) (m * up e * 1) (flip y_below t)) in
      ap (λ (z : ℕ). round binary64 false z 1) (sym (ceil_same (m * up e) (down e) k D N.0 N.1 l))

  -- of the negative number with the same size
  pub ceil_below_less : T (lt (fin false m e) y) → neg (sub binary64 y one) ≡ ceil binary64 (fin true m e)
  unfolding ceil
  ceil_below_less t =
      let l : m * up e < k * down e = subst (λ (z : ℕ). z < k * down e) (mul-one (m * up e)) (ltb→lt (m * up e * 1) (k * down e) (subst T y_above t)) in
      let f = floor_less (m * up e) (down e) k D N.0 N.1 l in
      ap neg (sub_wholes binary64 y one k 1 f.0 y_value (refl, refl)) ∙ neg_round binary64 (k - 1) 1 ∙ ap (λ (z : ℕ). round binary64 true z 1) (sym f.1)

  pub ceil_below_stays : T (not (lt (fin false m e) y)) → neg y ≡ ceil binary64 (fin true m e)
  unfolding of_int ceil
  ceil_below_stays t =
      let l : k * down e ≤ m * up e = subst (λ (z : ℕ). k * down e ≤ z) (mul-one (m * up e)) (nltb→le (m * up e * 1) (k * down e) (flip y_above t)) in
      neg_round binary64 k 1 ∙ ap (λ (z : ℕ). round binary64 true z 1) (sym (floor_same (m * up e) (down e) k D N.0 N.1 l))

  half_below : k < 2 ^ 52 → lt (fin false m e) (add binary64 y half) ≡ ltb (m * up e * 2) ((k * 2 + 1) * down e)
  half_below l = lt_values (fin false m e) (add binary64 y half) (m * up e) (down e) (k * 2 + 1) 2 D (zero-lt-suc 1) (refl, refl) (add_half y k y_value l)

  halves_lt : (a b c : ℕ) → a * 2 < b → b ≡ 2 * c + down e → 2 * a < 2 * c + down e
  halves_lt a b c p q = omega arith

  halves_le : (a b c : ℕ) → b ≤ a * 2 → b ≡ 2 * c + down e → 2 * c + down e ≤ 2 * a
  halves_le a b c p q = omega arith

  pub round_stays : T (lt (fin false m e) (add binary64 y half)) → y ≡ round_away binary64 (fin false m e)
  unfolding of_int round_away
  round_stays t = ap (λ (z : ℕ). round binary64 false z 1) (sym (half_same (m * up e) (down e) k D N.0 N.1 (go (eq-or-lt_of_le k_le))))
    where
      top : (a : ℕ) → a < 2 ^ 52 * down e → 2 * a < 2 * (2 ^ 52 * down e) + down e
      top a g = omega arith

      go : (k ≡ 2 ^ 52) ⊎ (k < 2 ^ 52) → 2 * (m * up e) < 2 * (k * down e) + down e
      go (inl q) = subst (λ (z : ℕ). 2 * (m * up e) < 2 * (z * down e) + down e) (sym q) (top (m * up e) h)
      go (inr l) = halves_lt (m * up e) ((k * 2 + 1) * down e) (k * down e) (ltb→lt (m * up e * 2) ((k * 2 + 1) * down e) (subst T (half_below l) t)) (middle k (down e))

  pub round_up : T (not (lt (fin false m e) (add binary64 y half))) → add binary64 y one ≡ round_away binary64 (fin false m e)
  unfolding round_away
  round_up t = go (eq-or-lt_of_le k_le)
    where
      no_more : (b : Bool) → T b → T (not b) → ⊥
      no_more true p q = q
      no_more false p q = p

      go : (k ≡ 2 ^ 52) ⊎ (k < 2 ^ 52) → add binary64 y one ≡ round binary64 false (halved_up (m * up e) (down e)) 1
      go (inl q) = absurd (no_more (lt (fin false m e) big) (under_big m e h) (flip (ap (λ (z : ℕ). lt (fin false m e) (add binary64 (of_int binary64 (pos z)) half)) q ∙ ap (lt (fin false m e)) big_half) t))
      go (inr l) =
          let g = halves_le (m * up e) ((k * 2 + 1) * down e) (k * down e) (nltb→le (m * up e * 2) ((k * 2 + 1) * down e) (flip (half_below l) t)) (middle k (down e)) in
          add_wholes binary64 y one k 1 y_value (refl, refl) ∙ ap (λ (z : ℕ). round binary64 false z 1) (sym (half_next (m * up e) (down e) k D N.0 N.1 g))

-- ---- a value below 0 and above -2 ^ 52

abbrev pub SmallBelow : Float → Type 0
SmallBelow x = (m : ℕ) × (e : ℤ) × (x ≡ fin true m e) × (m * up e < 2 ^ 52 * down e) × (0 < m * up e)

pub no_less : (n d : ℕ) → n * 1 < 0 * d → ⊥
no_less n d h = omega arith

some : (n d : ℕ) → 0 < n * 1 + 0 * d → 0 < n
some n d h = omega arith

pub small_below : (x : Float) → T (lt x nought) → T (lt (fin true 1 (pos 52)) x) → SmallBelow x
unfolding lt
small_below nan p b = absurd b
small_below (inf true) p b = absurd b
small_below (inf false) p b = absurd p
small_below (fin false m e) p b = absurd (no_less (m * up e) (down e) (ltb→lt (m * up e * 1) (0 * down e) p))
small_below (fin true m e) p b = (m, e, refl, tidy (m * up e) (down e) (ltb→lt (m * up e * 1) (1 * 2 ^ 52 * down e) b), some (m * up e) (down e) (ltb→lt 0 (m * up e * 1 + 0 * down e) p))

back_above : (n d : ℕ) → 0 < n → 0 * d < n * 1
back_above n d h = omega arith

-- what the helpers of `ceil` and `round` require of -x
pub turned : (m : ℕ) (e : ℤ) → m * up e < 2 ^ 52 * down e → 0 < m * up e → T (lt nought (fin false m e)) × T (lt (fin false m e) big)
unfolding lt
turned m e h p = (lt→ltb (0 * down e) (m * up e * 1) (back_above (m * up e) (down e) p), under_big m e h)

pub round_below : (m : ℕ) (e : ℤ) → neg (round_away binary64 (fin false m e)) ≡ round_away binary64 (fin true m e)
unfolding round_away
round_below m e = neg_round binary64 (halved_up (m * up e) (down e)) 1

-- ---- from 2 ^ 52 up, either way: no fraction

abbrev pub Large : Float → Type 0
Large x = ((s : Bool) × (x ≡ inf s)) ⊎ ((s : Bool) × (m : ℕ) × (a : ℕ) × (x ≡ fin s m (pos a)))

no_fraction : (m a p : ℕ) → m < 2 ^ 53 → p ≡ 2 * a → 0 < a → 1 * 2 ^ 52 * p ≤ m * 1 * 1 → ⊥
no_fraction m a p h e k l = omega arith

fraction : (m a : ℕ) (s : Bool) → T (fits binary64 (fin s m (negsuc a))) → T (not (ltb (m * 1 * 1) (1 * 2 ^ 52 * 2 ^ suc a))) → ⊥
fraction m a s F t = no_fraction m (2 ^ a) (2 ^ suc a) (fits_small binary64 s m (negsuc a) F) (pow-succ' 2 a) (pow_pos a) (nltb→le (m * 1 * 1) (1 * 2 ^ 52 * 2 ^ suc a) t)

pub large : (x : Float) → T (fits binary64 x) → T (lt nought x) → T (not (lt x big)) → Large x
unfolding lt
large nan F p b = absurd p
large (inf s) F p b = inl (s, refl)
large (fin true m e) F p b = absurd p
large (fin false m (pos a)) F p b = inr (false, m, a, refl)
large (fin false m (negsuc a)) F p b = absurd (fraction m a false F b)

pub large_below : (x : Float) → T (fits binary64 x) → T (lt x nought) → T (not (lt (fin true 1 (pos 52)) x)) → Large x
unfolding lt
large_below nan F p b = absurd p
large_below (inf s) F p b = inl (s, refl)
large_below (fin false m e) F p b = absurd (no_less (m * up e) (down e) (ltb→lt (m * up e * 1) (0 * down e) p))
large_below (fin true m (pos a)) F p b = inr (true, m, a, refl)
large_below (fin true m (negsuc a)) F p b = absurd (fraction m a true F b)

ceil_whole : (s : Bool) (n : ℕ) → n ≡ cond s (n / 1) ((n + (1 - 1)) / 1)
ceil_whole true n = sym (div-one n)
ceil_whole false n = sym (div-one (n + 0) ∙ add-zero n)

half_whole : (n : ℕ) → n ≡ (2 * n + 1) / 2
half_whole n = omega arith

pub ceil_large : (x : Float) → T (fits binary64 x) → Large x → x ≡ ceil binary64 x
unfolding ceil
ceil_large x F (inl (s, e)) = e ∙ sym (ap (ceil binary64) e)
ceil_large x F (inr (s, m, a, e)) =
    e ∙ sym (whole_is binary64 s m a (subst (λ (v : Float). T (fits binary64 v)) e F)) ∙ ap (λ (k : ℕ). round binary64 s k 1) (ceil_whole s (m * 2 ^ a)) ∙ sym (ap (ceil binary64) e)

pub round_large : (x : Float) → T (fits binary64 x) → Large x → x ≡ round_away binary64 x
unfolding round_away
round_large x F (inl (s, e)) = e ∙ sym (ap (round_away binary64) e)
round_large x F (inr (s, m, a, e)) =
    e ∙ sym (whole_is binary64 s m a (subst (λ (v : Float). T (fits binary64 v)) e F)) ∙ ap (λ (k : ℕ). round binary64 s k 1) (half_whole (m * 2 ^ a)) ∙ sym (ap (round_away binary64) e)

-- ---- neither above 0 nor below: a zero, or a NaN

abbrev pub Flat : Float → Type 0
Flat x = (x ≡ nan) ⊎ ((s : Bool) × (x ≡ fin s 0 (pos 0)))

not_flat : (m : ℕ) (e : ℤ) → suc m * up e * 1 ≤ 0 * down e → ⊥
not_flat m e h = go (suc m * up e) (mul-pos (zero-lt-suc m) (up_pos e)) h
  where
    go : (n : ℕ) → 0 < n → n * 1 ≤ 0 * down e → ⊥
    go n p q = omega arith

sum_flat : (n d : ℕ) → n * 1 + 0 * d ≤ 0 → n * 1 ≤ 0 * d
sum_flat n d h = omega arith

pub flat : (x : Float) → T (fits binary64 x) → T (not (lt nought x)) → T (not (lt x nought)) → Flat x
unfolding lt
flat nan F p q = inl refl
flat (inf true) F p q = absurd q
flat (inf false) F p q = absurd p
flat (fin s zero e) F p q = inr (s, ap (λ (z : ℤ). fin s 0 z) (zero_exponent binary64 s e F))
flat (fin false (suc m) e) F p q = absurd (not_flat m e (nltb→le (0 * down e) (suc m * up e * 1) p))
flat (fin true (suc m) e) F p q = absurd (not_flat m e (sum_flat (suc m * up e) (down e) (nltb→le 0 (suc m * up e * 1 + 0 * down e) q)))

zero_ceil : (s : Bool) → fin s 0 (pos 0) ≡ ceil binary64 (fin s 0 (pos 0))
unfolding ceil
zero_ceil true = refl
zero_ceil false = refl

zero_round : (s : Bool) → fin s 0 (pos 0) ≡ round_away binary64 (fin s 0 (pos 0))
unfolding round_away
zero_round true = refl
zero_round false = refl

pub ceil_flat : (x : Float) → Flat x → x ≡ ceil binary64 x
unfolding ceil
ceil_flat x (inl e) = e ∙ sym (ap (ceil binary64) e)
ceil_flat x (inr (s, e)) = e ∙ zero_ceil s ∙ sym (ap (ceil binary64) e)

pub round_flat : (x : Float) → Flat x → x ≡ round_away binary64 x
unfolding round_away
round_flat x (inl e) = e ∙ sym (ap (round_away binary64) e)
round_flat x (inr (s, e)) = e ∙ zero_round s ∙ sym (ap (round_away binary64) e)

-- ---- the same, of any x that is such a value, and of what the code has for y

-- what `nearest_whole` says of its result
abbrev pub NearFloat : Float → Float → Type 0
NearFloat x y = (k : ℕ) × (y ≡ of_int binary64 (pos k)) × Near x k

module _ (x y : Float) (S : Small x) (R : NearFloat x y) where
  close : Near (fin false S.0 S.1) R.0
  close = subst (λ (v : Float). Near v R.0) S.2 R.2

  -- a claim on the arguments in their plain form is one on x and y
  back : (P : Float → Float → Type 0) → P (fin false S.0 S.1) (of_int binary64 (pos R.0)) → P x y
  back P p = subst (λ (v : Float). P v y) (sym S.2) (subst (λ (w : Float). P (fin false S.0 S.1) w) (sym R.1) p)

  pub ceil_up_at : T (lt y x) → add binary64 y one ≡ ceil binary64 x
  ceil_up_at = back (λ v w. T (lt w v) → add binary64 w one ≡ ceil binary64 v) (ceil_up S.0 S.1 S.3 R.0 close)

  pub ceil_stays_at : T (not (lt y x)) → y ≡ ceil binary64 x
  ceil_stays_at = back (λ v w. T (not (lt w v)) → w ≡ ceil binary64 v) (ceil_stays S.0 S.1 S.3 R.0 close)

  pub round_up_at : T (not (lt x (add binary64 y half))) → add binary64 y one ≡ round_away binary64 x
  round_up_at = back (λ v w. T (not (lt v (add binary64 w half))) → add binary64 w one ≡ round_away binary64 v) (round_up S.0 S.1 S.3 R.0 close)

  pub round_stays_at : T (lt x (add binary64 y half)) → y ≡ round_away binary64 x
  round_stays_at = back (λ v w. T (lt v (add binary64 w half)) → w ≡ round_away binary64 v) (round_stays S.0 S.1 S.3 R.0 close)

module _ (x : Float) (S : SmallBelow x) where
  minus : neg x ≡ fin false S.0 S.1
  unfolding neg
  minus = ap neg S.2

  pub turned_below : T (lt nought (neg x)) × T (lt (neg x) big)
  turned_below = subst (λ (v : Float). T (lt nought v) × T (lt v big)) (sym minus) (turned S.0 S.1 S.3 S.4)

  pub round_below_at : neg (round_away binary64 (neg x)) ≡ round_away binary64 x
  round_below_at = ap (λ (v : Float). neg (round_away binary64 v)) minus ∙ round_below S.0 S.1 ∙ sym (ap (round_away binary64) S.2)

  module _ (y : Float) (R : NearFloat (neg x) y) where
    close_below : Near (fin false S.0 S.1) R.0
    close_below = subst (λ (v : Float). Near v R.0) minus R.2

    back_below : (P : Float → Float → Type 0) → P (fin false S.0 S.1) (of_int binary64 (pos R.0)) → P (neg x) y
    back_below P p = subst (λ (v : Float). P v y) (sym minus) (subst (λ (w : Float). P (fin false S.0 S.1) w) (sym R.1) p)

    pub ceil_below_less_at : T (lt (neg x) y) → neg (sub binary64 y one) ≡ ceil binary64 x
    ceil_below_less_at t =
        back_below (λ v w. T (lt v w) → neg (sub binary64 w one) ≡ ceil binary64 (fin true S.0 S.1)) (ceil_below_less S.0 S.1 S.3 R.0 close_below) t
        ∙ sym (ap (ceil binary64) S.2)

    pub ceil_below_stays_at : T (not (lt (neg x) y)) → neg y ≡ ceil binary64 x
    ceil_below_stays_at t =
        back_below (λ v w. T (not (lt v w)) → neg w ≡ ceil binary64 (fin true S.0 S.1)) (ceil_below_stays S.0 S.1 S.3 R.0 close_below) t
        ∙ sym (ap (ceil binary64) S.2)
