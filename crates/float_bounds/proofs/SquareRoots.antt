-- The root of a number of the format that is not below zero is finite, and where it is above zero
-- it is 2 ^ -537 at least. Assumes nothing.
use Rattle.std.specs.Prelude.{◌≡◌, Bool, true, not, cond, ℤ, ltb, Float}
use Rattle.std.proofs.Math.Path.{refl}
use Rattle.std.proofs.Common.{sym, ap, ◌∙◌, subst, le_trans, le_of_eq, lt_of_lt_of_le, lt_of_le_of_lt, lt_of_not-le, not-le_of_lt, one-mul, mul-one, mul-pos, mul-le-mul_left, mul-le-mul_right, mul-lt-mul_of_pos_right, mul_right_comm, le-div_iff_mul-le, div-lt_iff_lt-mul, zero-lt-suc, lit≤, pow-add, pow_pos, pow_mono}
use Rattle.std.proofs.Math.Bool.{false}
use Prim.Native.Nat.{ℕ, zero, suc, ◌+◌, ◌-◌, ◌*◌, ◌/◌, ◌^◌, ◌≤◌, ◌<◌, compare, Ordering}
use native.Mathlib.Omega.{arith}
use Rattle.std.proofs.Math.Dec.{T, ltb→lt}
use Rattle.std.proofs.Math.Pow.{pow-lt}
use Rattle.std.specs.Float.{nan, inf, fin, binary64}
use Rattle.std.specs.Float.Ieee.{up, down, size, nearest, odd, units, le, lt, fits, is_nan}
use Rattle.std.specs.Float.Ieee.Digits.{size-lt, size-le, size_reaches}
use Rattle.std.specs.Float.Ieee.Fits.{down_pos, up_pos, nearest-le, kept-lt, odd-fits, nan-fits, inf-fits}
use Rattle.std.specs.Float.Ieee.Nearest.{nearest-ge}
use Rattle.std.specs.Float.Ieee.Exact.{HasValue, units_val}
use Rattle.std.specs.Float.Ieee.Order.{le_of_values}
use Rattle.checked.specs.Checked.{is_finite}
use Rattle.order.specs.Order.{le_numbers, le_trans_of, lt_not_le, not_lt_le}
use Rattle.rounding.specs.Root.{root, round_root, sqrt}
use Rattle.rounding.specs.Squares.{sq_back}
use Rattle.rounding.specs.Floors.{root_floor}
use Rattle.rounding.specs.Values.{fits_under, fits_low}
use Rattle.float_bounds.specs.Parts.{nought}
use Rattle.float_bounds.proofs.Parts.{le_back}
use Rattle.float_bounds.specs.Intervals.{Upto, plain, positive}
use Rattle.float_bounds.proofs.Intervals.{upto_parts, fabs_units}
use Rattle.float_bounds.specs.Powers.{pow}
use Rattle.float_bits.specs.FloatBits.{fabs}
use Rattle.float_bounds.specs.SquareRoots.{least_root}

value_finite : (x : Float) (s : Bool) (a c : ℕ) → HasValue x s a c → T (is_finite x)
unfolding is_finite
value_finite nan s a c h = h
value_finite (inf t) s a c h = h
value_finite (fin t m e) s a c h = tt

-- what `round_root` keeps of the whole part w of a root, by any rounding
module _ (w : ℕ) (o : Ordering) where
  abbrev k : ℕ
  k = size w - 53

  abbrev kept : ℕ
  kept = nearest (w / 2 ^ k) o

  most : (j : ℕ) → w < 2 ^ (53 + j) → kept * 2 ^ k ≤ 2 ^ (53 + j)
  most j h =
      le_trans (mul-le-mul_right (2 ^ k) (le_trans (nearest-le (w / 2 ^ k) o) (kept-lt 53 w)))
      (le_trans (le_of_eq (sym (pow-add 2 53 k))) (pow_mono (room (size w) j (size-le w (53 + j) h))))
    where
      room : (z j : ℕ) → z ≤ 53 + j → 53 + (z - 53) ≤ 53 + j
      room z j h = omega arith

  least : (j : ℕ) → 2 ^ (53 + j) ≤ w → 2 ^ (53 + j) ≤ kept * 2 ^ k
  least j h =
      le_trans (pow_mono (room (size w) j digits))
      (le_trans (le_of_eq (pow-add 2 52 k))
      (mul-le-mul_right (2 ^ k) (le_trans ((le-div_iff_mul-le (pow_pos k)).1 (le_trans (le_of_eq (sym (pow-add 2 52 k))) (size_reaches w (52 + k) (reach (size w) j digits)))) (nearest-ge (w / 2 ^ k) o))))
    where
      digits : 53 + j < size w
      digits = lt_of_not-le (λ (g : size w ≤ 53 + j). not-le_of_lt (lt_of_lt_of_le (size-lt w) (pow_mono g)) h)

      room : (z j : ℕ) → 53 + j < z → 53 + j ≤ 52 + (z - 53)
      room z j h = omega arith

      reach : (z j : ℕ) → 53 + j < z → 52 + (z - 53) < z
      reach z j h = omega arith

-- the whole part of the root, of a fraction num / den
module _ (num den : ℕ) (D : 0 < den) where
  abbrev whole : ℕ
  whole = root (num * 4 ^ 1074 / den)

  abbrev rounded : Ordering
  rounded = compare (4 * (num * 4 ^ 1074)) ((2 * (whole / 2 ^ (size whole - 53)) + 1) * 2 ^ (size whole - 53) * ((2 * (whole / 2 ^ (size whole - 53)) + 1) * 2 ^ (size whole - 53)) * den)

  root_is : round_root binary64 num den ≡ units binary64 false (kept whole rounded) (size whole - 53)
  unfolding round_root
  root_is = refl

  -- a fraction below 4 ^ j
  whole_most : (j : ℕ) → num < 2 ^ (j + j) * den → whole < 2 ^ (53 + (1021 + j))
  whole_most j h =
      sq_back whole (2 ^ (53 + (1021 + j)))
      (lt_of_le_of_lt (root_floor (num * 4 ^ 1074 / den)).0
      ((div-lt_iff_lt-mul D).1 (lt_of_lt_of_le (mul-lt-mul_of_pos_right h (lit≤ {m = 1} {n = 4 ^ 1074} tt)) (le_of_eq (mul_right_comm (2 ^ (j + j)) den (4 ^ 1074) ∙ ap (λ (n : ℕ). n * den) (split j))))))
    where
      split : (j : ℕ) → 2 ^ (j + j) * 4 ^ 1074 ≡ 2 ^ (53 + (1021 + j)) * 2 ^ (53 + (1021 + j))
      split j = sym (pow-add 2 (j + j) 2148) ∙ ap (λ (n : ℕ). 2 ^ n) (twice j) ∙ pow-add 2 (53 + (1021 + j)) (53 + (1021 + j))
        where
          twice : (j : ℕ) → j + j + 2148 ≡ 53 + (1021 + j) + (53 + (1021 + j))
          twice j = omega arith

  whole_least : 0 < num → den ≤ 2 ^ 1074 → 2 ^ (53 + 484) ≤ whole
  whole_least N L =
      below (2 ^ 537) whole
      (sq_back (2 ^ 537) (whole + 1)
      (lt_of_le_of_lt ((le-div_iff_mul-le D).1 (le_trans (mul-le-mul_left (2 ^ 1074) L) (le_trans (le_of_eq (sym (one-mul (4 ^ 1074)))) (mul-le-mul_right (4 ^ 1074) N)))) (root_floor (num * 4 ^ 1074 / den)).1))
    where
      below : (a b : ℕ) → a < b + 1 → a ≤ b
      below a b h = omega arith

  fine : num < 2 ^ 1024 * den → kept whole rounded * 2 ^ (size whole - 53) < 2 ^ (1074 + suc 1023)
  fine h = lt_of_le_of_lt (most whole rounded 1533 (whole_most 512 h)) (pow-lt {i = 1586} {j = 2098} (lit≤ tt))

  value : num < 2 ^ 1024 * den → HasValue (round_root binary64 num den) false (kept whole rounded * 2 ^ (size whole - 53)) (2 ^ 1074)
  value h = subst (λ (v : Float). HasValue v false (kept whole rounded * 2 ^ (size whole - 53)) (2 ^ 1074)) (sym root_is) (units_val binary64 false (kept whole rounded) (size whole - 53) (fine h))

  root_finite : num < 2 ^ 1024 * den → T (is_finite (round_root binary64 num den))
  root_finite h = value_finite (round_root binary64 num den) false (kept whole rounded * 2 ^ (size whole - 53)) (2 ^ 1074) (value h)

  root_unsigned : fabs (round_root binary64 num den) ≡ round_root binary64 num den
  root_unsigned = ap fabs root_is ∙ fabs_units binary64 false (kept whole rounded) (size whole - 53) ∙ sym root_is

  root_most : (j : ℕ) → num < 2 ^ 1024 * den → num < 2 ^ (j + j) * den → T (le (round_root binary64 num den) (pow j))
  root_most j h g =
      le_of_values (round_root binary64 num den) (pow j) (kept whole rounded * 2 ^ (size whole - 53)) (2 ^ 1074) (2 ^ j) 1 (pow_pos 1074) (zero-lt-suc 0) (value h) (refl, unit (2 ^ j))
      (le_trans (le_of_eq (mul-one (kept whole rounded * 2 ^ (size whole - 53)))) (le_trans (most whole rounded (1021 + j) (whole_most j g)) (le_of_eq (ap (λ (n : ℕ). 2 ^ n) (sum j) ∙ pow-add 2 j 1074))))
    where
      unit : (p : ℕ) → 1 * p * 1 ≡ p * 1
      unit p = omega arith

      sum : (j : ℕ) → 53 + (1021 + j) ≡ j + 1074
      sum j = omega arith

  root_least : num < 2 ^ 1024 * den → 0 < num → den ≤ 2 ^ 1074 → T (le least_root (round_root binary64 num den))
  root_least h N L =
      le_of_values least_root (round_root binary64 num den) 1 (2 ^ 537) (kept whole rounded * 2 ^ (size whole - 53)) (2 ^ 1074) (pow_pos 537) (pow_pos 1074) (refl, refl) (value h)
      (mul-le-mul_right (2 ^ 537) (least whole rounded 484 (whole_least N L)))

least_above : T (lt nought least_root)
unfolding lt
least_above = tt

pub sqrt_finite : (x : Float) → T (plain x) → T (fits binary64 x) → T (is_finite (sqrt binary64 x))
unfolding sqrt
sqrt_finite nan X F = absurd X
sqrt_finite (inf s) X F = absurd X
sqrt_finite (fin true m e) X F = absurd X
sqrt_finite (fin false zero e) X F = unfold is_finite in tt
sqrt_finite (fin false (suc m) e) X F = root_finite (suc m * up e) (down e) (down_pos e) (fits_under binary64 false (suc m) e F)

pub sqrt_least : (x : Float) → T (plain x) → T (fits binary64 x) → T (lt nought (sqrt binary64 x)) → T (le least_root (sqrt binary64 x))
unfolding sqrt
sqrt_least nan X F h = absurd X
sqrt_least (inf s) X F h = absurd X
sqrt_least (fin true m e) X F h = absurd X
sqrt_least (fin false zero e) X F h = absurd (none (up e) (down e) (unfold lt in h))
  where
    none : (u d : ℕ) → T (ltb (0 * d) (0 * u * 1)) → ⊥
    none u d h = let l : 0 * d < 0 * u * 1 = ltb→lt (0 * d) (0 * u * 1) h in omega arith
sqrt_least (fin false (suc m) e) X F h = root_least (suc m * up e) (down e) (down_pos e) (fits_under binary64 false (suc m) e F) (mul-pos (zero-lt-suc m) (up_pos e)) (fits_low binary64 false (suc m) e F)

-- the root of a number below 4 ^ j is at most 2 ^ j
pub pow_sqrt : (j k : ℕ) (x : Float) → k < j + j → T (plain x) → T (fits binary64 x) → Upto (pow k) x → Upto (pow j) (sqrt binary64 x)
unfolding sqrt
pow_sqrt j k nan K X F h = absurd X
pow_sqrt j k (inf s) K X F h = absurd X
pow_sqrt j k (fin true m e) K X F h = absurd X
pow_sqrt j k (fin false zero e) K X F h = unfold fabs in le_back (fin false 0 e) (pow j) (unfold is_finite in tt) (unfold is_finite in tt) (omega arith)
pow_sqrt j k (fin false (suc m) e) K X F h =
    let x = fin false (suc m) e in
    subst (λ (v : Float). T (le v (pow j))) (sym (root_unsigned (suc m * up e) (down e) (down_pos e)))
    (root_most (suc m * up e) (down e) (down_pos e) j (fits_under binary64 false (suc m) e F) (lt_of_le_of_lt (below (suc m * up e) (2 ^ k) (down e) (upto_parts x (pow k) tt h)) (mul-lt-mul_of_pos_right (pow-lt K) (down_pos e))))
  where
    below : (n p d : ℕ) → (n + 0) * 1 ≤ 1 * p * d → n ≤ p * d
    below n p d h = omega (arith, one-mul p)

-- a root that is not above zero is +0
pub sqrt_zero : (x : Float) → T (plain x) → T (fits binary64 x) → lt nought (sqrt binary64 x) ≡ false → (e : ℤ) × (sqrt binary64 x ≡ fin false 0 e)
unfolding sqrt
sqrt_zero nan X F h = absurd X
sqrt_zero (inf s) X F h = absurd X
sqrt_zero (fin true m e) X F h = absurd X
sqrt_zero (fin false zero e) X F h = (e, refl)
sqrt_zero (fin false (suc m) e) X F h =
    let r = round_root binary64 (suc m * up e) (down e) in
    let l : T (le least_root r) = root_least (suc m * up e) (down e) (down_pos e) (fits_under binary64 false (suc m) e F) (mul-pos (zero-lt-suc m) (up_pos e)) (fits_low binary64 false (suc m) e F) in
    absurd (lt_not_le nought least_root least_above (le_trans_of least_root r nought l (not_lt_le nought r (unfold is_nan in tt) (le_numbers least_root r l).1 (subst (λ (b : Bool). T (not b)) (sym h) tt))))

-- of a number above zero the root is above zero
pub sqrt_positive : (x : Float) → T (plain x) → T (fits binary64 x) → T (positive x) → T (le least_root (sqrt binary64 x))
unfolding sqrt
sqrt_positive nan X F h = absurd X
sqrt_positive (inf s) X F h = absurd X
sqrt_positive (fin true m e) X F h = absurd X
sqrt_positive (fin false zero e) X F h = absurd (none (up e) (ltb→lt 0 (0 * up e) h))
  where
    none : (u : ℕ) → 0 < 0 * u → ⊥
    none u h = omega arith
sqrt_positive (fin false (suc m) e) X F h = root_least (suc m * up e) (down e) (down_pos e) (fits_under binary64 false (suc m) e F) (mul-pos (zero-lt-suc m) (up_pos e)) (fits_low binary64 false (suc m) e F)

-- ---- a root is a value of the format

units_fits : (s : Bool) (q k : ℕ) → q ≤ 2 ^ 53 → T (fits binary64 (units binary64 s q k))
unfolding units
units_fits s q k h = go (ltb (q * 2 ^ k) (2 ^ 2098)) (ltb→lt (q * 2 ^ k) (2 ^ 2098))
  where
    go : (b : Bool) → (T b → q * 2 ^ k < 2 ^ 2098) → T (fits binary64 (cond b (odd 54 s q k 1074) (inf s)))
    go true l = odd-fits binary64 54 s q k (lt_of_le_of_lt h (pow-lt {i = 53} {j = 54} (lit≤ tt))) h (l tt)
    go false l = inf-fits binary64 s

pub sqrt_fits : (x : Float) → T (fits binary64 x) → T (fits binary64 (sqrt binary64 x))
unfolding sqrt
sqrt_fits nan F = nan-fits binary64
sqrt_fits (inf true) F = nan-fits binary64
sqrt_fits (inf false) F = inf-fits binary64 false
sqrt_fits (fin s zero e) F = F
sqrt_fits (fin true (suc m) e) F = nan-fits binary64
sqrt_fits (fin false (suc m) e) F =
    let w = whole (suc m * up e) (down e) (down_pos e) in
    let o = rounded (suc m * up e) (down e) (down_pos e) in
    subst (λ (v : Float). T (fits binary64 v)) (sym (root_is (suc m * up e) (down e) (down_pos e)))
    (units_fits false (kept w o) (size w - 53) (le_trans (nearest-le (w / 2 ^ (size w - 53)) o) (kept-lt 53 w)))
