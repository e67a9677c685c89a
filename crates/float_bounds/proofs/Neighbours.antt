-- Between the numbers of two patterns that follow each other there is no number of the format.
-- Assumes nothing.
use Rattle.std.specs.Prelude.{◌≡◌, refl, Bool, true, false, ℕ, suc, ◌*◌, ◌/◌, ◌^◌, ◌<◌, ltb, Float}
use Rattle.std.proofs.Math.Path.{subst}
use Rattle.std.proofs.Common.{arith, ltb-true, ltb-false}
use Rattle.std.proofs.Math.Dec.{T, not_T}
use Rattle.std.specs.Float.{nan, inf, fin, binary64}
use Rattle.std.specs.Float.Ieee.{neg, le, lt, eq, fits}
use Rattle.std.specs.Float.Ieee.Fits.{neg-fits}
use Rattle.std.specs.Float.Ieee.Bits.{is_false}
use Rattle.checked.specs.Checked.{is_finite}
use Rattle.checked.specs.Numbers.{literal}
use Rattle.order.specs.Order.{le_trans_of}
use Rattle.float_bits.specs.FloatBits.{size, fabs}
use Rattle.float_bits.specs.Laws.{fabs_bits}
use Rattle.float_bits.specs.Signs.{finite_exponent}
use Rattle.float_bounds.specs.Parts.{nought}
use Rattle.float_bounds.proofs.Parts.{neg_le, neg_twice}
use Rattle.float_bounds.proofs.Intervals.{upto_in, neg_finite}
use Rattle.float_bounds.proofs.HighWords.{pattern_le}
use Rattle.float_bounds.proofs.Comparing.{below_size}

-- a finite number's pattern is below the infinity's
pub size_top : (t : Float) → T (is_finite t) → T (fits binary64 t) → size t < 2047 * 2 ^ 52
size_top nan X F = absurd (unfold is_finite in X)
size_top (inf s) X F = absurd (unfold is_finite in X)
size_top (fin s m e) X F = less (size (fin s m e)) (finite_exponent s m e F)
  where
    less : (k : ℕ) → k / 2 ^ 52 < 2047 → k < 2047 * 2 ^ 52
    less k l = omega arith

-- of a number not above 0: where it is below one, it is not above the next one down
pub next_down : (b : ℕ) (t : Float) → suc b < 2047 * 2 ^ 52 → T (fits binary64 t) → T (is_finite t) → T (le t nought) → le (neg (literal b)) t ≡ false → T (le t (neg (literal (suc b))))
next_down b t B F X h n = by (ltb b (size t)) refl
  where
    by : (c : Bool) → ltb b (size t) ≡ c → T (le t (neg (literal (suc b))))
    by true e =
        le_trans_of t (neg (fabs t)) (neg (literal (suc b))) (below_size t X h)
        (neg_le (literal (suc b)) (fabs t) (subst (λ (v : Float). T (le (literal (suc b)) v)) (fabs_bits t F) (pattern_le (suc b) (size t) (ltb-true b (size t) e) (size_top t X F))))
    by false e = absurd (subst T n (upto_in (literal b) t (subst (λ (v : Float). T (le v (literal b))) (fabs_bits t F) (pattern_le (size t) b (ltb-false b (size t) e) (omega arith)))).0)

-- of a number not below 0: where it is above one, it is not below the next one up
pub next_up : (b : ℕ) (t : Float) → suc b < 2047 * 2 ^ 52 → T (fits binary64 t) → T (is_finite t) → T (le nought t) → le t (literal b) ≡ false → T (le (literal (suc b)) t)
next_up b t B F X h n =
    rw (neg_twice t, neg_twice (literal (suc b))) at (neg_le (neg t) (neg (literal (suc b)))
    (next_down b (neg t) B (neg-fits binary64 t F) (neg_finite t X) (le_trans_of (neg t) (neg nought) nought (neg_le nought t h) (unfold neg le lt eq in tt))
    (is_false (le (neg (literal b)) (neg t)) (not_T (le (neg (literal b)) (neg t)) (λ l. subst T n (rw (neg_twice t, neg_twice (literal b)) at (neg_le (neg (literal b)) (neg t) l)))))))
