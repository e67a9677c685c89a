-- `per_turn` lies in 12 to 64 and is never refused by 9: a chord that is not below 0 and below the
-- radius makes a cosine in [0, 1]. Assumes nothing.
use Rattle.std.specs.Prelude.{◌≡◌, Bool, not, cond, ◌&&◌, ℕ, suc, ◌*◌, ◌<◌, T, eqb, ℤ, negsuc, Float}
use Rattle.std.proofs.Math.Path.{refl}
use Rattle.std.proofs.Common.{sym, ap, ◌∙◌, subst, zero-lt-suc, mul-pos}
use Rattle.std.proofs.Math.Bool.{true, false}
use Prim.Native.Nat as N
use Rattle.std.specs.Float.{nan, inf, fin}
use Rattle.std.specs.Float.Ieee.{binary64, up, down, round, unlike, sub, div, neg, le, lt, eq, is_nan, of_bits}
use Rattle.std.proofs.lemmas.Bool.{eqb-false}
use Rattle.std.specs.Float.Ieee.Fits.{sub-fits, down_pos, up_pos}
use Rattle.std.specs.Float.Ieee.Bits.{is_false}
use Rattle.checked.specs.Refusals.{OUT_OF_RANGE, BAD_TOLERANCE}
use Rattle.checked.specs.Checked.{first, is_finite, nine, within, given, due, settled, answered}
use Rattle.checked.specs.Tests.{fails as failed, ◌or◌, passing, chord_test}
use Rattle.checked.specs.Laws.{within_finite, first_zero, settled_none, rules as checked_rules}
use Rattle.checked.specs.Numbers.{zero, one, pi}
use Rattle.order.specs.Order.{Number, le_numbers, le_trans_of, not_lt_le, lt_le, fails}
use Rattle.float_bits.specs.FloatBits.{fabs}
use Rattle.float_bits.specs.Laws.{fabs_nan}
use Rattle.rounding.specs.Whole.{ceil, floored, ceiled}
use Rattle.libm.specs.Roots.{acos}
use Rattle.chord_counts.specs.Chords.{fewest, most, quotient_c, chords_c, clamped, per_turn_c, per_turn_due}
use Rattle.float_bounds.specs.Parts.{nought}
use Rattle.float_bounds.proofs.Parts.{positive_round}
use Rattle.float_bounds.specs.Intervals.{In}
use Rattle.float_bounds.proofs.Intervals.{upto_in, in_sub, in_finite, fabs_round, le_fabs, finite_number}
use Rattle.float_bounds.proofs.Comparing.{le_lt_trans, above_size}
use Rattle.float_bounds.specs.Own.{unit}
use Rattle.float_bounds.proofs.Own.{above_zero, div_most, div_above}
use Rattle.libm_ranges.specs.Arccosines.{acos_finite}
use Rattle.arc_theorems.specs.Sizes.{nine_none}

-- ---- what is no NaN

-- a fraction rounds to a number
round_number : (s : Bool) (a c : ℕ) → 0 < c → is_nan (round binary64 s a c) ≡ false
round_number s a c C =
    sym (fabs_nan (round binary64 s a c))
    ∙ ap is_nan (fabs_round binary64 s a c)
    ∙ is_false (is_nan (round binary64 false a c)) (le_numbers nought (round binary64 false a c) (positive_round binary64 a c C)).1

ceil_number : (x : Float) → is_nan x ≡ false → is_nan (ceil binary64 x) ≡ false
unfolding ceil is_nan
ceil_number nan h = h
ceil_number (inf s) h = refl
ceil_number (fin s m e) h = round_number s (cond s (floored (m * up e) (down e)) (ceiled (m * up e) (down e))) 1 (zero-lt-suc 0)

-- what is not zero, over a finite number
over : (s : Bool) (m : ℕ) (d : ℤ) → eqb m 0 ≡ false → (a : Float) → T (is_finite a) → is_nan (div binary64 (fin s m d) a) ≡ false
unfolding div is_finite
over s m d z nan A = absurd A
over s m d z (inf t) A = absurd A
over s m d z (fin t n e) A = by (eqb n 0) refl
  where
    some : (n : ℕ) → (n ≡ 0 → ⊥) → 0 < n
    some N.zero h = absurd (h refl)
    some (suc n) h = zero-lt-suc n

    by : (b : Bool) → eqb n 0 ≡ b → is_nan (cond b (cond (eqb m 0) nan (inf (unlike s t))) (round binary64 (unlike s t) (m * up d * down e) (n * up e * down d))) ≡ false
    by true h = ap (λ (c : Bool). is_nan (cond c nan (inf (unlike s t)))) z ∙ (unfold is_nan in refl)
    by false h = round_number (unlike s t) (m * up d * down e) (n * up e * down d) (mul-pos (mul-pos (some n (eqb-false n 0 h)) (up_pos e)) (down_pos d))

over_number : (a : Float) → T (is_finite a) → is_nan (div binary64 pi a) ≡ false
unfolding of_bits
over_number a A = over false 0x3243f6a8885a3 (negsuc 47) refl a A

-- ---- a number brought into 12 to 64

clamped_in : (x : Float) → is_nan x ≡ false → In fewest most (clamped x)
unfolding clamped
clamped_in x h = by (lt x fewest) refl (lt most x) refl
  where
    X : Number x
    X = subst (λ (b : Bool). T (not b)) (sym h) tt

    by : (p : Bool) → lt x fewest ≡ p → (q : Bool) → lt most x ≡ q → In fewest most (cond p fewest (cond q most x))
    by true a q b = unfold le lt eq of_bits in (tt, tt)
    by false a true b = unfold le lt eq of_bits in (tt, tt)
    by false a false b = (not_lt_le x fewest X (unfold is_nan of_bits in tt) (fails (lt x fewest) a), not_lt_le most x (unfold is_nan of_bits in tt) X (fails (lt most x) b))

module _ (radius chord : Float) (R : T (within radius)) (C : T (within chord)) (N : T (not (lt chord zero))) where
  radius_finite : T (is_finite radius)
  radius_finite = within_finite radius R

  chord_finite : T (is_finite chord)
  chord_finite = within_finite chord C

  chord_above : T (le nought chord)
  unfolding of_bits
  chord_above = not_lt_le chord zero (finite_number chord chord_finite) (unfold is_nan in tt) N

  module _ (L : T (lt chord radius)) where
    abbrev q : Float
    q = div binary64 chord radius

    abbrev x : Float
    x = sub binary64 one q

    radius_above : T (lt nought radius)
    radius_above = le_lt_trans nought chord radius chord_above L

    sizes : T (le (fabs chord) (fabs radius))
    sizes =
        le_trans_of (fabs chord) chord (fabs radius) (above_size chord chord_finite chord_above)
        (le_trans_of chord radius (fabs radius) (lt_le chord radius L) (le_fabs radius (finite_number radius radius_finite)))

    q_in : In nought unit q
    q_in = (div_above chord radius chord_finite radius_finite chord_above radius_above, (upto_in unit q (div_most chord radius radius_finite (above_zero radius radius_finite radius_above) sizes)).1)

    x_in : In nought one x
    unfolding sub neg le lt eq of_bits is_finite
    x_in = in_sub one one nought unit tt tt tt tt one q (tt, tt) q_in

    angle_finite : T (is_finite (acos x))
    angle_finite = acos_finite x (sub-fits binary64 one q) x_in

    quotient_accepted : (quotient_c radius chord).refusal ≡ 0
    unfolding quotient_c
    quotient_accepted =
        let a : nine q ≡ 0 = nine_none q (in_finite nought unit q (unfold is_finite in tt) (unfold is_finite in tt) q_in) in
        let b : nine x ≡ 0 = nine_none x (in_finite nought one x (unfold is_finite in tt) (unfold is_finite of_bits in tt) x_in) in
        let c : nine (acos x) ≡ 0 = nine_none (acos x) angle_finite in
        simp (a, b, c, checked_rules)

    quotient_number : is_nan (quotient_c radius chord).value ≡ false
    unfolding quotient_c
    quotient_number = over_number (acos x) angle_finite

  chords_accepted : (chords_c radius chord).refusal ≡ 0
  unfolding chords_c
  chords_accepted = by (lt chord radius) quotient_accepted
    where
      by : (b : Bool) → (T b → (quotient_c radius chord).refusal ≡ 0) → (cond b (quotient_c radius chord) (given zero)).refusal ≡ 0
      by true h = h tt
      by false h = refl

  chords_number : is_nan (chords_c radius chord).value ≡ false
  unfolding chords_c
  chords_number = by (lt chord radius) quotient_number
    where
      by : (b : Bool) → (T b → is_nan (quotient_c radius chord).value ≡ false) → is_nan (cond b (quotient_c radius chord) (given zero)).value ≡ false
      by true h = h tt
      by false h = unfold is_nan of_bits in refl

  pub per_turn_accepted : (per_turn_c radius chord).refusal ≡ 0
  unfolding per_turn_c
  per_turn_accepted = first_zero (chords_c radius chord).refusal ∙ chords_accepted

  pub per_turn_range : In fewest most (per_turn_c radius chord).value
  unfolding per_turn_c
  per_turn_range = clamped_in (ceil binary64 (chords_c radius chord).value) (ceil_number (chords_c radius chord).value chords_number)

-- `per_turn`, for all arguments: a number out of range and a chord below 0 are refused; any other
-- call gives a number from 12 to 64
pub per_turn_answer : (radius chord : Float) → per_turn_due radius chord ≡ passing (failed OUT_OF_RANGE (within radius && within chord) or chord_test chord) (due (per_turn_c radius chord).value)
unfolding per_turn_due chord_test first failed passing
per_turn_answer radius chord = by (within radius) (within chord) (not (lt chord zero)) (per_turn_accepted radius chord)
  where
    by : (r c n : Bool) → (T r → T c → T n → (per_turn_c radius chord).refusal ≡ 0)
        → passing (failed OUT_OF_RANGE (r && c) or failed BAD_TOLERANCE n) (answered (per_turn_c radius chord)) ≡ passing (failed OUT_OF_RANGE (r && c) or failed BAD_TOLERANCE n) (due (per_turn_c radius chord).value)
    by true true true h = ap (λ (k : ℕ). settled k (per_turn_c radius chord).value) (h tt tt tt) ∙ settled_none (per_turn_c radius chord).value
    by true true false h = refl
    by true false n h = refl
    by false c n h = refl
