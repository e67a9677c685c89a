-- Whole numbers up to a limit from floats, for any limit that an f64 holds exactly, and which notes
-- of a quotient suffice. Assumes nothing.
use Rattle.std.specs.Prelude.{◌≡◌, ℕ, ◌+◌, ◌-◌, ◌*◌, ◌/◌, ◌^◌, ◌<◌, ◌≤◌, Bool, true, false, cond, ◌&&◌, ◌||◌, T, ◌⊎◌, ℤ, pos, ◌==◌, ◌≢◌, nat_lt, refl, Float}
use Rattle.std.proofs.Common.{sym, ◌∙◌, ap, subst, inl, inr, true≢false, mul_comm, one-mul, mul-one, mul_right_comm, le_of_mul-le-mul_right, ltb→lt, eqb→eq, ltb-false}
use native.Mathlib.Omega.{arith}
use Rattle.std.proofs.Math.Nat.{div-le_of_le-mul, min-le_left, mul-lt-mul_of_pos_right}
use Rattle.std.proofs.Math.Dec.{lt→ltb}
use Rattle.std.specs.Float.Ieee.{nan, up, down, sub, div, lt, eq, le, neg, of_bits, of_int, to_unsigned}
use Rattle.std.specs.Float.{inf, fin, binary64}
use Rattle.std.specs.Float.Ieee.Fits.{and_l, down_pos}
use Rattle.std.specs.Float.Ieee.Exact.{HasValue}
use Rattle.std.specs.Float.Ieee.Back.{round_whole}
use Rattle.checked.specs.Refusals.{COUNT_TOO_LARGE}
use Rattle.checked.specs.Checked.{first, nine, given}
use Rattle.checked.specs.Laws.{rules as checked_rules}
use Rattle.checked.specs.Numbers.{one, float}
use Rattle.rounding.specs.Whole.{ceil}
use Rattle.order.specs.Order.{or_cases}
use Rattle.order.specs.Least.{greatest}
use Rattle.libm.specs.Roots.{acos}
use Rattle.chord_counts.specs.Chords.{quotient_c}
use Rattle.chord_counts.specs.Counts.{limited_c, count_c}

not_below : (a b : ℕ) → 0 < a → nat_lt 0 (a + b) ≢ false
not_below a b A h = omega (arith, ltb-false 0 (a + b) h)

-- nothing is left of a number not above -1
pub none_left : (x : Float) → lt (neg (of_bits binary64 0x3ff0_0000_0000_0000)) x ≡ false → to_unsigned 64 x ≡ 0
unfolding lt neg of_bits to_unsigned
none_left nan h = refl
none_left (inf true) h = refl
none_left (inf false) h = absurd (true≢false h)
none_left (fin true m e) h = refl
none_left (fin false m e) h = absurd (not_below (1 * down e) (m * up e * 1) (rw (one-mul (down e)) (down_pos e)) h)

-- ---- a number not above y, whose value is the whole number n
not_above : (a b : ℕ) → T (nat_lt a b || (a == b && true)) → a ≤ b
not_above a b h = to (or_cases (nat_lt a b) (a == b && true) h)
  where
    to : T (nat_lt a b) ⊎ T (a == b && true) → a ≤ b
    to (inl l) = omega (arith, ltb→lt a b l)
    to (inr e) = omega (arith, eqb→eq a b (and_l (a == b) true e))

under : (m : ℕ) (e : ℤ) (y : Float) (n : ℕ) → HasValue y false n 1 → T (le (fin false m e) y) → m * up e ≤ n * down e
unfolding le lt eq
under m e nan n v h = absurd v
under m e (inf t) n v h = absurd v
under m e (fin true k d) n v h = absurd (true≢false v.0)
under m e (fin false k d) n v h =
    let whole : k * up d ≡ n * down d = sym (mul-one (k * up d)) ∙ v.1 in
    let both : m * up e * down d ≤ n * down e * down d = subst (λ (b : ℕ). m * up e * down d ≤ b) (ap (λ (b : ℕ). b * down e) whole ∙ mul_right_comm n (down d) (down e)) (not_above (m * up e * down d) (k * up d * down e) h) in
    le_of_mul-le-mul_right both (down_pos d)

module _ (y : Float) (n : ℕ) (v : HasValue y false n 1) where
  no_infinity : T (le (inf false) y) → ⊥
  unfolding le lt eq
  no_infinity h = go y v h
    where
      go : (y : Float) → HasValue y false n 1 → T (le (inf false) y) → ⊥
      go nan v h = v
      go (inf t) v h = v
      go (fin t k d) v h = h

  counted : (x : Float) → T (le x y) → to_unsigned 64 x ≤ n
  unfolding le lt eq to_unsigned
  counted nan h = absurd h
  counted (inf true) h = omega arith
  counted (inf false) h = absurd (no_infinity h)
  counted (fin true m e) h = omega arith
  counted (fin false m e) h =
      let q : m * up e / down e ≤ n = div-le_of_le-mul (down e) (rw (mul_comm (down e) n) (under m e y n v h)) in
      omega (arith, min-le_left (m * up e / down e) (2 ^ 64 - 1))

  below_2^64 : n < 2 ^ 64 → (x : Float) → T (le x y) → T (lt x (fin false 1 (pos 64)))
  unfolding le lt eq
  below_2^64 N nan h = absurd h
  below_2^64 N (inf true) h = tt
  below_2^64 N (inf false) h = absurd (no_infinity h)
  below_2^64 N (fin true m e) h = lt→ltb 0 (m * up e * 1 + 2 ^ 64 * down e) (omega (arith, down_pos e))
  below_2^64 N (fin false m e) h =
      let less : n * down e < 2 ^ 64 * down e = mul-lt-mul_of_pos_right N (down_pos e) in
      lt→ltb (m * up e * 1) (2 ^ 64 * down e) (omega (arith, less, under m e y n v h))

-- ---- the same of a limit as a float
float_value : (n : ℕ) → n ≤ 2 ^ 53 → HasValue (float n) false n 1
unfolding of_int
float_value n h = round_whole binary64 false n h

pub at_most : (x : Float) (n : ℕ) → n ≤ 2 ^ 53 → T (le x (float n)) → to_unsigned 64 x ≤ n
at_most x n N h = counted (float n) n (float_value n N) x h

-- such a number is far below 2^64
pub fits_u64 : (x : Float) (n : ℕ) → n ≤ 2 ^ 53 → T (le x (float n)) → T (lt x (fin false 1 (pos 64)))
fits_u64 x n N h = below_2^64 (float n) n (float_value n N) (omega arith) x h

-- ---- a count is at most its limit, whether or not it is refused
limited_most : (x : Float) (limit : ℕ) → limit ≤ 2 ^ 53 → (limited_c x limit).value ≤ limit
unfolding limited_c
limited_most x limit L = by (le x (float limit)) (λ h. at_most x limit L h)
  where
    by : (b : Bool) → (T b → to_unsigned 64 x ≤ limit) → (cond b (given (to_unsigned 64 x)) (record { refusal = COUNT_TOO_LARGE; value = 0 })).value ≤ limit
    by true h = h tt
    by false h = omega arith

pub count_limited : (x least : Float) (limit : ℕ) → limit ≤ 2 ^ 53 → (count_c x least limit).value ≤ limit
unfolding count_c
count_limited x least limit L = limited_most (greatest (ceil binary64 x) least) limit L

-- ---- the cosine of half a chord's angle, and that angle
abbrev pub cosine : Float → Float → Float
cosine radius chord = sub binary64 one (div binary64 chord radius)

pub quotient_refusal : (radius chord : Float) → (quotient_c radius chord).refusal ≡ first (nine (cosine radius chord)) (nine (acos (cosine radius chord)))
unfolding quotient_c
quotient_refusal radius chord = simp checked_rules
