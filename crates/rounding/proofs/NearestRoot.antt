-- A check of the definition in `specs/Root.antt`: of all the values of an f64 none is nearer to the
-- root of x than `sqrt` of x. With R for the result and Y for any other value, both in units of 2 ^
-- -1074, the root is on R's side of the middle (R + Y) / 2, which is said with both sides squared.
-- Assumes nothing.
use mathlib.Core.Path.{◌≡◌, sym, ap, ◌∙◌, subst}
use mathlib.Core.Logic.{◌⊎◌, inl, inr}
use mathlib.Core.Bool.{false}
use Prim.Native.Nat.{ℕ, suc, ◌+◌, ◌-◌, ◌*◌, ◌/◌, ◌%◌, ◌^◌, ◌≤◌, ◌<◌}
use native.Mathlib.Nat.{le_trans, le_of_eq, le_of_lt, lt_of_lt_of_le, lt_of_le_of_lt, lt_of_not-le, lt_irrefl, le_of_suc-le-suc, mul-one, mul_assoc, mul-pos, add-mul, mul-le-mul_left, mul-le-mul_right, lt_of_mul-lt-mul_right, eq_of_mul-eq-mul_right, zero-lt-suc, eq-or-lt_of_le}
use native.Mathlib.Omega.{arith}
use native.Mathlib.Decide.{dec_le, ℕ_discrete}
use lib.IntN.{ℤ, pos, negsuc}
use lib.Dec.{T, lt→ltb}
use lib.Pow.{pow-add, pow_pos, pow_mono, pow-lt, shl_lt}
use lib.Ieee.{Float, nan, inf, fin, binary64, up, down, fits, lt, to_bits}
use lib.Ieee.Fits.{down_pos, up_pos}
use lib.Ieee.Exact.{HasValue, units_val}
use Rattle.rounding.specs.Root.{sqrt}
use Rattle.rounding.specs.NearRoot.{NearRoot}
use Rattle.rounding.specs.Values.{nought, fits_small, fits_low}
use Rattle.rounding.proofs.Roots.{near_exists, middle_above, middle_below, squares_le, square_of, near_range, round_root_is}
use Rattle.rounding.specs.Patterns.{read_top}
use Rattle.rounding.proofs.SquareRoot.{Parts, normal, subnormal, in_units, n_ge, n_lt, h_lt}

abbrev Finite : Float → Type 0
Finite nan = Unit {0}
Finite (inf s) = ⊥
Finite (fin s m e) = Unit {0}

-- ---- x's m and e

some_parts : (x : Float) → T (fits binary64 x) → T (lt nought x) → (x ≡ inf false → ⊥) → (m : ℕ) × (e : ℕ) × Parts x m e
some_parts x F P fine = go (ℕ_discrete (to_bits binary64 x / 2 ^ 52) 0) (ℕ_discrete (to_bits binary64 x / 2 ^ 52) 2047)
  where
    go : Dec (to_bits binary64 x / 2 ^ 52 ≡ 0) → Dec (to_bits binary64 x / 2 ^ 52 ≡ 2047) → (m : ℕ) × (e : ℕ) × Parts x m e
    go (yes z) t = (_, _, subnormal x F P z)
    go (no n) (yes t) = absurd (fine (read_top binary64 x F P t))
    go (no n) (no t) = (_, _, normal x F P t n)

-- ---- a value of 2 ^ (52 + h) units or more is a multiple of 2 ^ h units

pow_le_back : (a l : ℕ) → 2 ^ a < 2 ^ l → a < l
pow_le_back a l h = lt_of_not-le (λ (g : l ≤ a). lt_irrefl (2 ^ a) (lt_of_lt_of_le h (pow_mono g)))

pow_le : (a l : ℕ) → 2 ^ a ≤ 2 ^ l → a ≤ l
pow_le a l h = le_of_suc-le-suc (lt_of_not-le (λ (g : suc l ≤ a). lt_irrefl (2 ^ l) (lt_of_lt_of_le (pow-lt g) h)))

-- a value that fits, of w units, is n * 2 ^ j units for an n of 53 digits at most
abbrev Grid : ℕ → Type 0
Grid w = (n : ℕ) × (j : ℕ) × (w ≡ n * 2 ^ j) × (n < 2 ^ 53)

grid : (y : Float) (w : ℕ) → T (fits binary64 y) → HasValue y false w (2 ^ 1074) → Grid w
grid nan w F v = absurd v
grid (inf s) w F v = absurd v
grid (fin s n (pos a)) w F v =
    (n, a + 1074, sym (mul-one w) ∙ sym v.1 ∙ mul_assoc n (2 ^ a) (2 ^ 1074) ∙ ap (λ (k : ℕ). n * k) (sym (pow-add 2 a 1074)), fits_small binary64 s n (pos a) F)
grid (fin s n (negsuc a)) w F v =
    let l : suc a ≤ 1074 = pow_le (suc a) 1074 (fits_low binary64 s n (negsuc a) F) in (
      n,
      1074 - suc a,
      eq_of_mul-eq-mul_right (2 ^ suc a) (pow_pos (suc a)) w (n * 2 ^ (1074 - suc a))
          (sym v.1
          ∙ ap (λ (k : ℕ). k * 2 ^ 1074) (mul-one n)
          ∙ ap (λ (k : ℕ). n * k) (ap (λ (k : ℕ). 2 ^ k) (join a l) ∙ pow-add 2 (1074 - suc a) (suc a))
          ∙ sym (mul_assoc n (2 ^ (1074 - suc a)) (2 ^ suc a))),
      fits_small binary64 s n (negsuc a) F,
    )
  where
    join : (k : ℕ) → suc k ≤ 1074 → 1074 ≡ 1074 - suc k + suc k
    join k h = omega arith

multiple : (w h : ℕ) → Grid w → 2 ^ (52 + h) ≤ w → (y : ℕ) × (w ≡ y * 2 ^ h)
multiple w h (n, j, e, l) big =
    let under : w < 2 ^ (53 + j) = subst (λ (k : ℕ). k < 2 ^ (53 + j)) (sym e) (shl_lt 53 j l) in
    let d : h ≤ j = go (pow_le_back (52 + h) (53 + j) (lt_of_le_of_lt big under)) in
    (n * 2 ^ (j - h), e ∙ ap (λ (k : ℕ). n * 2 ^ k) (back d) ∙ ap (λ (k : ℕ). n * k) (pow-add 2 (j - h) h) ∙ sym (mul_assoc n (2 ^ (j - h)) (2 ^ h)))
  where
    go : 52 + h < 53 + j → h ≤ j
    go k = omega arith

    back : h ≤ j → j ≡ j - h + h
    back k = omega arith

-- ---- the root of n * 4 ^ h, and t, the nearest whole number to the root of n, from 2 ^ 52 up
module _ (n h t : ℕ) (N : NearRoot n t) (lo : 2 ^ 104 ≤ n) (T52 : 2 ^ 52 ≤ t) where
  p : ℕ
  p = 2 ^ h

  -- a value above t * 2 ^ h is at least the next multiple
  above : (w : ℕ) → Grid w → t * 2 ^ h < w → 4 * (n * (2 ^ h * 2 ^ h)) ≤ (t * 2 ^ h + w) * (t * 2 ^ h + w)
  above w g l =
      let m = multiple w h g (le_trans (le_of_eq (pow-add 2 52 h)) (le_trans (mul-le-mul_right (2 ^ h) T52) (le_of_lt l))) in
      let y_ge : t < m.0 = lt_of_mul-lt-mul_right (2 ^ h) (subst (λ (k : ℕ). t * 2 ^ h < k) m.1 l) in
      let sum : (2 * t + 1) * 2 ^ h ≤ t * 2 ^ h + w =
      le_trans (mul-le-mul_right (2 ^ h) (two_and t m.0 y_ge)) (le_of_eq (add-mul t m.0 (2 ^ h) ∙ ap (λ (k : ℕ). t * 2 ^ h + k) (sym m.1))) in
      le_trans (le_of_eq (sym (mul_assoc 4 n (2 ^ h * 2 ^ h))))
      (le_trans (mul-le-mul_right (2 ^ h * 2 ^ h) (middle_above n t N))
      (le_trans (le_of_eq (sym (square_of (2 * t + 1) (2 ^ h)))) (squares_le sum)))
    where
      two_and : (a b : ℕ) → a < b → 2 * a + 1 ≤ a + b
      two_and a b k = omega arith

  -- where the sum is at most the middle below t
  under : (w : ℕ) → t * 2 ^ h + w ≤ (2 * t - 1) * 2 ^ h → (t * 2 ^ h + w) * (t * 2 ^ h + w) ≤ 4 * (n * (2 ^ h * 2 ^ h))
  under w s =
      le_trans (squares_le s)
      (le_trans (le_of_eq (square_of (2 * t - 1) (2 ^ h)))
      (le_trans (mul-le-mul_right (2 ^ h * 2 ^ h) (middle_below n t (lt_of_lt_of_le (pow_pos 52) T52) N)) (le_of_eq (mul_assoc 4 n (2 ^ h * 2 ^ h)))))

  less_one : (a b : ℕ) → a < b → b + a ≤ 2 * b - 1
  less_one a b k = omega arith

  -- a value that is a multiple, and below t * 2 ^ h
  below_multiple : (w y : ℕ) → w ≡ y * 2 ^ h → w < t * 2 ^ h → t * 2 ^ h + w ≤ (2 * t - 1) * 2 ^ h
  below_multiple w y e l =
      let y_lt : y < t = lt_of_mul-lt-mul_right (2 ^ h) (subst (λ (k : ℕ). k < t * 2 ^ h) e l) in
      le_trans (le_of_eq (ap (λ (k : ℕ). t * 2 ^ h + k) e ∙ sym (add-mul t y (2 ^ h)))) (mul-le-mul_right (2 ^ h) (less_one y t y_lt))

  -- t is 2 ^ 52, the root is at least t * 2 ^ h
  power : (w : ℕ) → t ≡ 2 ^ 52 → w < t * 2 ^ h → (t * 2 ^ h + w) * (t * 2 ^ h + w) ≤ 4 * (n * (2 ^ h * 2 ^ h))
  power w e l =
      let r = t * 2 ^ h in
      le_trans (squares_le (twice r w l))
      (le_trans (le_of_eq (square_of 2 r))
      (mul-le-mul_left 4 (le_trans (le_of_eq (square_of t (2 ^ h))) (mul-le-mul_right (2 ^ h * 2 ^ h) (le_trans (le_of_eq (ap (λ (k : ℕ). k * k) e)) lo)))))
    where
      twice : (a b : ℕ) → b < a → a + b ≤ 2 * a
      twice a b k = omega arith

  below : (w : ℕ) → Grid w → w < t * 2 ^ h → (t * 2 ^ h + w) * (t * 2 ^ h + w) ≤ 4 * (n * (2 ^ h * 2 ^ h))
  below w g l = go (dec_le (2 ^ (52 + h)) w) (eq-or-lt_of_le T52)
    where
      small : w < 2 ^ (52 + h) → 2 ^ 52 < t → t * 2 ^ h + w ≤ (2 * t - 1) * 2 ^ h
      small k m =
          let c : (2 * t - 1) * 2 ^ h ≡ t * 2 ^ h + (t - 1) * 2 ^ h = ap (λ (z : ℕ). z * 2 ^ h) (split t (lt_of_le_of_lt (le_of_lt (pow_pos 52)) m)) ∙ add-mul t (t - 1) (2 ^ h) in
          let d : 2 ^ (52 + h) ≤ (t - 1) * 2 ^ h = le_trans (le_of_eq (pow-add 2 52 h)) (mul-le-mul_right (2 ^ h) (pred t m)) in
          fin_sum (t * 2 ^ h) w ((t - 1) * 2 ^ h) ((2 * t - 1) * 2 ^ h) (2 ^ (52 + h)) c d k
        where
          split : (k : ℕ) → 0 < k → 2 * k - 1 ≡ k + (k - 1)
          split k z = omega arith

          pred : (k : ℕ) → 2 ^ 52 < k → 2 ^ 52 ≤ k - 1
          pred k z = omega arith

          fin_sum : (a b c d q : ℕ) → d ≡ a + c → q ≤ c → b < q → a + b ≤ d
          fin_sum a b c d q x y z = omega arith

      go : Dec (2 ^ (52 + h) ≤ w) → (2 ^ 52 ≡ t) ⊎ (2 ^ 52 < t) → (t * 2 ^ h + w) * (t * 2 ^ h + w) ≤ 4 * (n * (2 ^ h * 2 ^ h))
      go (yes k) q = let m = multiple w h g k in under w (below_multiple w m.0 m.1 l)
      go (no k) (inl e) = power w (sym e) l
      go (no k) (inr m) = under w (small (lt_of_not-le k) m)

-- ---- the theorem

-- R units are no farther from the root of num / den than w units are
abbrev NoNearer : ℕ → ℕ → ℕ → ℕ → Type 0
NoNearer num den r w = (r < w → 4 * (num * 4 ^ 1074) ≤ (r + w) * (r + w) * den) × (w < r → (r + w) * (r + w) * den ≤ 4 * (num * 4 ^ 1074))

is_above : (m : ℕ) (e : ℤ) → T (lt nought (fin false (suc m) e))
unfolding lt
is_above m e = lt→ltb (0 * down e) (suc m * up e * 1) (go (suc m * up e) (down e) (mul-pos (zero-lt-suc m) (up_pos e)))
  where
    go : (n d : ℕ) → 0 < n → 0 * d < n * 1
    go n d h = omega arith

pub no_nearer : (m : ℕ) (e : ℤ) → T (fits binary64 (fin false (suc m) e))
    → (r : ℕ) × HasValue (sqrt binary64 (fin false (suc m) e)) false r (2 ^ 1074) × ((y : Float) (w : ℕ) → T (fits binary64 y) → HasValue y false w (2 ^ 1074) → NoNearer (suc m * up e) (down e) r w)
unfolding sqrt
no_nearer m e F =
    let x = fin false (suc m) e in
    let num = suc m * up e in
    let den = down e in
    let z = some_parts x F (is_above m e) no_inf in
    let q = z.2 in
    let n = z.0 * 2 ^ (52 + z.1 % 2) in
    let h = z.1 / 2 + 485 in
    let lo = n_ge z.0 z.1 q.m_ge in
    let hi = n_lt z.0 z.1 q.m_lt in
    let k = near_exists n (lt_of_lt_of_le (pow_pos 104) lo) in
    let t = k.0 in
    let i = near_range n t lo hi k.1 in
    let u = in_units num den z.0 z.1 q.value.1 in
    let four : 4 * (num * 4 ^ 1074) ≡ 4 * (n * (2 ^ h * 2 ^ h)) * den = ap (λ (y : ℕ). 4 * y) u ∙ sym (mul_assoc 4 (n * (2 ^ h * 2 ^ h)) den) in (
      t * 2 ^ h,
      subst (λ (v : Float). HasValue v false (t * 2 ^ h) (2 ^ 1074)) (sym (round_root_is binary64 num den n h t (down_pos e) u lo hi k.1)) (units_val binary64 false t h (room t h i.1 (h_lt z.1 q.e_lt))),
      λ y w G v.
          let g = grid y w G v in (
            (λ l. le_trans (le_of_eq four) (mul-le-mul_right den (above n h t k.1 lo i.0 w g l))),
            (λ l. le_trans (mul-le-mul_right den (below n h t k.1 lo i.0 w g l)) (le_of_eq (sym four))),
          ),
    )
  where
    no_inf : fin false (suc m) e ≡ inf false → ⊥
    no_inf p = subst Finite p tt

    room : (t h : ℕ) → t ≤ 2 ^ 53 → suc (suc h) < 2047 → t * 2 ^ h < 2 ^ 2098
    room t h a b = lt_of_le_of_lt (le_trans (mul-le-mul_right (2 ^ h) a) (le_of_eq (sym (pow-add 2 53 h)))) (pow-lt (go h b))
      where
        go : (k : ℕ) → suc (suc k) < 2047 → 53 + k < 2098
        go k l = omega arith
