-- A box call whose numbers pass the test of what is handed in meets no number that is not finite:
-- for every arc and two ends, no refusal is met on the way to the points that widen the box.
-- Assumes nothing.
use Rattle.std.specs.Prelude.{◌≡◌, refl, Bool, true, false, cond, [], ℕ, suc, ◌+◌, ◌≤◌, T, Float}
use Rattle.std.proofs.Common.{ap, ◌∙◌, arith}
use Rattle.std.specs.Float.{binary64}
use Rattle.std.specs.Float.Ieee.{mul, div, neg, le, lt, eq, of_bits}
use Rattle.checked.specs.Refusals.{OUT_OF_RANGE, BAD_BOX_OR_SUMS}
use Rattle.checked.specs.Checked.{first, given, is_finite, nine, due, settled}
use Rattle.checked.specs.Tests.{fails, ◌or◌, passing}
use Rattle.checked.specs.Laws.{zero_first, settled_none}
use Rattle.float_bits.specs.FloatBits.{fabs}
use Rattle.vectors.specs.declared.Vec3.{Vec3}
use Rattle.checked.specs.Numbers.{zero, one}
use Rattle.vectors.specs.Vectors.{along_x, along_y, along_z, within3, plus_c, minus_c, times_c, dot_c}
use Rattle.directions.specs.Directions.{length_c, across_c}
use Rattle.arcs.specs.declared.Arc.{Arc}
use Rattle.arcs.specs.Sweep.{ends_within, sweep_from_c}
use Rattle.boxes.specs.declared.Bounds.{Bounds}
use Rattle.boxes.specs.Boxes.{free, widened_by, box_call}
use Rattle.arcs.specs.Entries.{points, extend_due}
use Rattle.arcs.specs.Extremes.{side_c, both_c, extremes_c, points_c}
use Rattle.arcs.specs.ExtremesLaws.{both_refusal, extremes_refusal, points_refusal}
use Rattle.float_bounds.specs.Intervals.{Upto}
use Rattle.float_bounds.proofs.Intervals.{le_fabs, finite_number}
use Rattle.float_bounds.specs.Powers.{pow}
use Rattle.float_bounds.proofs.Powers.{pow_mul, pow_div, within_pow}
use Rattle.float_bounds.specs.SquareRoots.{least_root}
use Rattle.float_bounds.proofs.SquareRoots.{sqrt_finite, sqrt_least}
use Rattle.order.specs.Order.{le_trans_of}
use Rattle.arc_theorems.specs.Sizes.{Upto3, none, nine_none, within_upto3, wider3, minus3, plus3, times3, dot3}
use Rattle.arc_theorems.specs.Squares.{dot_self}
use Rattle.arc_theorems.specs.Turns.{Handed}
use Rattle.arc_theorems.proofs.Turns.{handed_in, sweep_from_accepted}

-- ---- across the axis

pub across3 : (k : ℕ) (axis d : Vec3) → k ≤ 900 → Upto3 20 axis → Upto3 k d → Upto3 (suc (20 + suc (suc (k + 20)))) (across_c axis d).value
unfolding across_c
across3 k axis d h A D =
    let s = (dot_c d axis).value in
    minus3 (20 + suc (suc (k + 20))) d (times_c axis s).value (omega arith) (wider3 k (20 + suc (suc (k + 20))) d (omega arith) D)
    (times3 20 (suc (suc (k + 20))) axis s (omega arith) A (dot3 k 20 d axis (omega arith) D A))

-- ---- a length

module _ (k : ℕ) (w : Vec3) (K : suc (suc (k + k)) ≤ 1023) (W : Upto3 k w) where
  pub length_finite : T (is_finite (length_c w).value)
  unfolding length_c
  length_finite = sqrt_finite (dot_c w w).value (dot_self k w K W).0 (dot_self k w K W).1

  pub length_least : T (lt zero (length_c w).value) → T (le least_root (length_c w).value)
  unfolding length_c of_bits
  length_least h = sqrt_least (dot_c w w).value (dot_self k w K W).0 (dot_self k w K W).1 h

-- ---- a candidate

unit_sides : Upto (pow 0) one × Upto (pow 0) (neg one)
unfolding neg fabs le lt eq of_bits
unit_sides = (tt, tt)

pub side3 : (center : Vec3) (radius : Float) (w : Vec3) (len s : Float) → Upto3 20 center → Upto (pow 20) radius → Upto3 86 w → T (is_finite len) → T (le least_root len) → Upto (pow 0) s → Upto3 645 (minus_c (side_c center radius w len s).value center).value
unfolding side_c
side3 center radius w len s C R W F L S =
    let q = div binary64 (mul binary64 s radius) len in
    let Q : Upto (pow 557) q = pow_div 20 536 (mul binary64 s radius) len (omega arith) (pow_mul 0 20 s radius (omega arith) S R) F (le_trans_of least_root len (fabs len) L (le_fabs len (finite_number len F))) in
    minus3 644 (plus_c center (times_c w q).value).value center (omega arith)
    (plus3 643 center (times_c w q).value (omega arith) (wider3 20 643 center (omega arith) C) (times3 86 557 w q (omega arith) W Q))
    (wider3 20 644 center (omega arith) C)

-- ---- extreme points, and all

module _ (center axis : Vec3) (radius : Float) (from to : Vec3) (H : Handed center axis radius from to) where
  centred : Upto3 20 center
  centred = within_upto3 center H.center

  axial : Upto3 20 axis
  axial = within_upto3 axis H.axis

  abbrev u : Vec3
  u = (minus_c from center).value

  away : (p : Vec3) → T (within3 p) → Upto3 21 (minus_c p center).value
  away p P = minus3 20 p center (omega arith) (within_upto3 p P) centred

  module _ (turn : Float) (e : Vec3) (E : Upto3 0 e) where
    abbrev w : Vec3
    w = (across_c axis (across_c axis e).value).value

    abbrev len : Float
    len = (length_c w).value

    w_size : Upto3 86 w
    w_size = across3 43 axis (across_c axis e).value (omega arith) axial (across3 0 axis e (omega arith) axial E)

    candidate : (s : Float) → T (lt zero len) → Upto (pow 0) s → (sweep_from_c center axis u (side_c center radius w len s).value).refusal ≡ 0
    candidate s l S =
        sweep_from_accepted center axis 21 645 u (side_c center radius w len s).value (omega arith) axial (away from H.start)
        (side3 center radius w len s centred (within_pow radius H.radius) w_size (length_finite 86 w (omega arith) w_size) (length_least 86 w (omega arith) w_size l) S)

    extremes_accepted : (extremes_c center axis radius (sweep_from_c center axis u) turn e).refusal ≡ 0
    extremes_accepted =
        extremes_refusal center axis radius (sweep_from_c center axis u) turn e
        ∙ none (nine len) (cond (lt zero len) (both_c center radius (sweep_from_c center axis u) turn w len) (given [])).refusal (nine_none len (length_finite 86 w (omega arith) w_size)) (by (lt zero len) (λ l. both_refusal center axis radius u turn w len ∙ none _ _ (candidate one l unit_sides.0) (candidate (neg one) l unit_sides.1)))
      where
        by : (b : Bool) → (T b → (both_c center radius (sweep_from_c center axis u) turn w len).refusal ≡ 0) → (cond b (both_c center radius (sweep_from_c center axis u) turn w len) (given [])).refusal ≡ 0
        by true h = h tt
        by false h = refl

  along : (e : Vec3) → Upto3 0 e → (extremes_c center axis radius (sweep_from_c center axis u) (sweep_from_c center axis u to).value e).refusal ≡ 0
  along e E = extremes_accepted (sweep_from_c center axis u to).value e E

  unit_x : Upto3 0 along_x
  unfolding fabs le lt eq of_bits
  unit_x = record { x = tt; y = tt; z = tt }

  unit_y : Upto3 0 along_y
  unfolding fabs le lt eq of_bits
  unit_y = record { x = tt; y = tt; z = tt }

  unit_z : Upto3 0 along_z
  unfolding fabs le lt eq of_bits
  unit_z = record { x = tt; y = tt; z = tt }

  accepted : (points_c center axis radius from to).refusal ≡ 0
  accepted =
      points_refusal center axis radius from to
      ∙ none _ _ (sweep_from_accepted center axis 21 21 u to (omega arith) axial (away from H.start) (away to H.end))
      (none _ _ (along along_x unit_x) (none _ _ (along along_y unit_y) (along along_z unit_z)))

pub points_accepted : (center axis : Vec3) (radius : Float) (from to : Vec3) → T (ends_within center axis radius from to) → (points_c center axis radius from to).refusal ≡ 0
points_accepted center axis radius from to h = accepted center axis radius from to (handed_in center axis radius from to h)

-- `Arc::extend_bounds`, for all arguments: numbers out of range are refused, and a box with a NaN;
-- any other call widens the box
pub extend_answer : (arc : Arc) (from to : Vec3) (b : Bounds)
    → extend_due arc from to b ≡ passing (fails OUT_OF_RANGE (ends_within arc.center arc.axis arc.radius from to) or fails BAD_BOX_OR_SUMS (free b)) (due (widened_by b (points arc from to).value))
unfolding extend_due box_call first fails passing
extend_answer arc from to b = go (ends_within arc.center arc.axis arc.radius from to) (free b) (points_accepted arc.center arc.axis arc.radius from to)
  where
    go : (e f : Bool) → (T e → (points arc from to).refusal ≡ 0) → passing (fails OUT_OF_RANGE e or fails BAD_BOX_OR_SUMS f) (settled (first (points arc from to).refusal 0) (widened_by b (points arc from to).value)) ≡ passing (fails OUT_OF_RANGE e or fails BAD_BOX_OR_SUMS f) (due (widened_by b (points arc from to).value))
    go true true h = ap (λ (r : ℕ). settled r (widened_by b (points arc from to).value)) (ap (λ (r : ℕ). first r 0) (h tt) ∙ zero_first 0) ∙ settled_none (widened_by b (points arc from to).value)
    go true false h = refl
    go false f h = refl
