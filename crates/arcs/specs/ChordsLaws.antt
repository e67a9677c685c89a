-- Which notes of a cut suffice, and an arc's inner points as those of a rim that is worked out
-- once. Assumes nothing.
use Rattle.std.specs.Prelude.{ℕ, zero, suc, ◌≡◌, refl, Bool, true, false, ◌&&◌, Float}
use Rattle.std.specs.Float.{binary64}
use Rattle.std.specs.Float.Ieee.{mul, div}
use Rattle.checked.specs.Checked.{Checked, first, nine, is_finite, Due, settled, answered}
use Rattle.checked.specs.Answers.{and_then}
use Rattle.checked.specs.Laws.{ok, nine_ok, ok_and, first_zero, opened as checked_opened, rules as checked_rules}
use Rattle.checked.specs.Numbers.{one, tau}
use Rattle.rounding.specs.Laws.{rounded}
use Rattle.vectors.specs.declared.Vec3.{Vec3}
use Rattle.vectors.specs.Vectors.{is_finite3, minus_c}
use Rattle.vectors.specs.Laws.{nines_ok}
use Rattle.directions.specs.Directions.{length_c, across_c}
use Rattle.chord_counts.specs.Chords.{per_turn_c}
use Rattle.chord_counts.specs.Counts.{MOST, count_c}
use Rattle.rows.specs.declared.circles.Circle.{Circle}
use Rattle.rows.specs.Circles.{circle_at_c}
use Rattle.arcs.specs.Sweep.{sweep_c}
use Rattle.arcs.specs.Points.{radius_vector_c, rim_of, rim_c, at_c}
use Rattle.arcs.specs.PointsLaws.{spoke_refusal, turned_refusal, turned_value}
use Rattle.arcs.specs.declared.chords.Cut.{Cut}
use Rattle.arcs.specs.Chords.{cut_c, inner_c}

-- the sweep's refusal, that of the quotient, the chords', the count's
pub cut_refusal : (center axis : Vec3) (radius : Float) (from to : Vec3) (chord : Float) → (cut_c center axis radius from to chord).refusal ≡ first (sweep_c center axis from to).refusal (first (nine (div binary64 (sweep_c center axis from to).value tau)) (first (per_turn_c radius chord).refusal (count_c (mul binary64 (div binary64 (sweep_c center axis from to).value tau) (per_turn_c radius chord).value) one MOST).refusal))
unfolding cut_c count_c
cut_refusal center axis radius from to chord = simp (rounded, checked_rules)

-- ---- the inner points
later : (a b s : Bool) (r : ℕ) → first (ok a) (first (ok b) (first (ok s) r)) ≡ first (ok s) (first (ok a) (first (ok b) r))
unfolding ok first
later a b true r = refl
later true true false r = refl
later true false false r = refl
later false b false r = refl

settled_then : {A B : Type 0} (r : ℕ) (a : A) (f : A → Checked B) → and_then (settled r a) (λ x. answered (f x)) ≡ settled (first r (f a).refusal) (f a).value
unfolding settled first
settled_then zero a f = refl
settled_then (suc r) a f = refl

module _ (center axis : Vec3) (radius : Float) (from : Vec3) (cut : Cut) where
  abbrev pub rimmed : ℕ → Checked Vec3
  rimmed = circle_at_c (rim_of center axis (radius_vector_c center axis radius from).value) cut.turn cut.chords

  pub same_value : (k : ℕ) → (inner_c center axis radius from cut k).value ≡ (rimmed k).value
  unfolding inner_c at_c circle_at_c
  same_value k = turned_value center axis (radius_vector_c center axis radius from).value _

  abbrev spoken : Bool
  spoken = is_finite (length_c (across_c axis (minus_c from center).value).value).value && is_finite3 (radius_vector_c center axis radius from).value

  spoke_ok : (radius_vector_c center axis radius from).refusal ≡ ok spoken
  spoke_ok = simp (spoke_refusal, nine_ok, nines_ok, ok_and)

  pub own_refusal : (k : ℕ) → (inner_c center axis radius from cut k).refusal ≡ first (radius_vector_c center axis radius from).refusal (rimmed k).refusal
  unfolding inner_c at_c circle_at_c
  own_refusal k = simp (spoke_ok, turned_refusal, nine_ok, checked_opened) (later _ _ _ _)

  -- one of them, from a rim that is worked out or refused
  pub point_is : (rim : Due Circle) (k : ℕ) → rim ≡ answered (rim_c center axis radius from) → and_then rim (λ r. answered (circle_at_c r cut.turn cut.chords k)) ≡ answered (inner_c center axis radius from cut k)
  point_is rim k is = rw (is, own_refusal k, same_value k, first_zero (radius_vector_c center axis radius from).refusal) (settled_then (radius_vector_c center axis radius from).refusal _ _)
