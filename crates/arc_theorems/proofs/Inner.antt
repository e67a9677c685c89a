-- `Arc::inner_points`: an arc is cut into 64 chords at most, so 63 points are due at most and a row
-- of 189 numbers suffices; the count is never refused by 10, an angle never by 8, and 9 is met
-- exactly where `Arc::at` meets it. Assumes nothing.
use Rattle.std.specs.Prelude.{◌≡◌, Bool, not, ◌&&◌, ◌||◌, List, ℕ, suc, ◌+◌, ◌-◌, ◌*◌, ◌/◌, ◌^◌, ◌≤◌, ◌<◌, leb, pos, negsuc, Float}
use Rattle.std.proofs.Math.Path.{refl, sym, ap, subst}
use Rattle.std.proofs.Common.{◌∙◌, zero-lt-suc, div-lt_iff_lt-mul, le-leb}
use Rattle.std.proofs.Math.Logic.{inl, inr}
use Rattle.std.proofs.Math.Bool.{true, false, cond}
use Prim.Native.Nat as N
use native.Mathlib.Omega.{arith}
use Rattle.std.proofs.Math.Dec.{T}
use Rattle.std.specs.Float.{nan, inf, fin}
use Rattle.std.specs.Float.Ieee.{binary64, up, down, round, mul, div, neg, le, lt, eq, of_bits, of_int, to_unsigned}
use Rattle.std.specs.Float.Ieee.Fits.{and_i, down_pos}
use Rattle.std.specs.Float.Ieee.Bits.{is_true}
use Rattle.std.specs.Float.Ieee.Order.{round_mono}
use Rattle.checked.specs.Refusals.{OUT_OF_RANGE, BAD_TOLERANCE, NOT_FINITE}
use Rattle.checked.specs.Checked.{Checked, first, is_finite, nine, within, given, Due, due, refused, settled, answered}
use Rattle.checked.specs.Answers.{and_then}
use Rattle.checked.specs.Tests.{fails, ◌or◌, passing, chord_test}
use Rattle.checked.specs.Laws.{first_zero, settled_none}
use Rattle.checked.specs.Numbers.{zero, one, tau, float}
use Rattle.order.specs.Order.{le_trans_of, lt_le}
use Rattle.order.specs.Least.{greatest}
use Rattle.order.proofs.Extremes.{greatest_picks}
use Rattle.float_bits.specs.FloatBits.{fabs}
use Rattle.rounding.specs.Whole.{ceil, floored, ceiled}
use Rattle.vectors.specs.declared.Vec3.{Vec3}
use Rattle.chord_counts.specs.Chords.{fewest, most, per_turn_c}
use Rattle.chord_counts.specs.Counts.{MOST, limited_c, count_c}
use Rattle.chord_counts.specs.Laws.{at_most}
use Rattle.rows.specs.Rows.{up_to, fits}
use Rattle.rows.specs.Laws.{up_to_same}
use Rattle.rows.specs.CirclesLaws.{rim_at_refusal}
use Rattle.arcs.specs.Sweep.{ends_within, sweep_c}
use Rattle.arcs.specs.Points.{radius_vector_c, rim_of}
use Rattle.arcs.specs.PointsLaws.{turned_refusal}
use Rattle.arcs.specs.declared.chords.Cut.{Cut}
use Rattle.arcs.specs.Chords.{chord_within, cut_c, inner_c, inners_due}
use Rattle.arcs.specs.ChordsLaws.{cut_refusal, rimmed, own_refusal, same_value}
use Rattle.arcs.specs.declared.Arc.{Arc}
use Rattle.arcs.specs.Entries.{inner_points_due}
use Rattle.float_bounds.specs.Parts.{nought, plus, minus}
use Rattle.float_bounds.specs.Intervals.{Upto}
use Rattle.float_bounds.proofs.Intervals.{upto_in, in_upto, upto_parts, upto_mul, fabs_round, finite_number}
use Rattle.float_bounds.specs.Own.{unit}
use Rattle.float_bounds.proofs.Own.{above_zero, div_most}
use Rattle.float_bounds.specs.Powers.{pow}
use Rattle.float_bounds.proofs.Powers.{pow_finite, pow_mul, pow_div, pow_wider}
use Rattle.arc_theorems.specs.Sizes.{none, nine_none}
use Rattle.arc_theorems.specs.Turns.{Turn, Handed}
use Rattle.arc_theorems.proofs.Turns.{handed_in, sweep_range, sweep_accepted}
use Rattle.arc_theorems.specs.PerTurn.{per_turn_accepted, per_turn_range}
use Rattle.arc_theorems.specs.At.{off_length}
use Rattle.arc_theorems.proofs.At.{spoke_found, spoke_missed, turned_accepted}
use Rattle.arc_theorems.specs.Inner.{is_none, points_of, rim_points}

-- ---- whole numbers from a number of magnitude at most 64

ceil_size : (x : Float) → Upto (pow 6) x → Upto (pow 6) (ceil binary64 x)
unfolding ceil
ceil_size nan h = absurd (unfold le lt eq fabs in h)
ceil_size (inf s) h = absurd (unfold le lt eq fabs in h)
ceil_size (fin s m e) h =
    let k = cond s (floored (m * up e) (down e)) (ceiled (m * up e) (down e)) in
    subst (λ (v : Float). T (le v (pow 6))) (sym (fabs_round binary64 s k 1))
    (unfold round in round_mono binary64 k 1 64 1 (zero-lt-suc 0) (zero-lt-suc 0) (most_whole s (m * up e) (down e) (down_pos e) (parts s (m * up e) (down e) (upto_parts (fin s m e) (pow 6) tt h))))
  where
    parts : (s : Bool) (n d : ℕ) → (plus s n + minus s n) * 1 ≤ 1 * 2 ^ 6 * d → n ≤ 64 * d
    parts true n d h = omega arith
    parts false n d h = omega arith

    most_whole : (s : Bool) (n d : ℕ) → 0 < d → n ≤ 64 * d → cond s (floored n d) (ceiled n d) * 1 ≤ 64 * 1
    most_whole true n d D h = let l : n / d < 65 = (div-lt_iff_lt-mul D).1 (omega arith) in omega arith
    most_whole false n d D h = let l : (n + (d - 1)) / d < 65 = (div-lt_iff_lt-mul D).1 (omega arith) in omega arith

-- the count of chords: at most 64
module _ (x : Float) (X : Upto (pow 6) x) where
  abbrev c : Float
  c = ceil binary64 x

  c_finite : T (is_finite c)
  c_finite = pow_finite 6 c (ceil_size x X)

  abbrev g : Float
  g = greatest c one

  g_most : T (le g (pow 6))
  g_most = elim (greatest_picks c one (finite_number c c_finite) (unfold is_finite of_bits in finite_number one tt)).which [
    | inl e ↦ subst (λ (v : Float). T (le v (pow 6))) (sym e) (upto_in (pow 6) c (ceil_size x X)).1
    | inr e ↦ subst (λ (v : Float). T (le v (pow 6))) (sym e) (unfold le lt eq of_bits in tt)
  ]

  limits : T (le (pow 6) (float 64)) × T (le (pow 6) (float MOST))
  unfolding le lt eq of_int round
  limits = (tt, tt)

  taken : limited_c g MOST ≡ given (to_unsigned 64 g)
  unfolding limited_c
  taken = ap (λ (b : Bool). cond b (given (to_unsigned 64 g)) (record { refusal = 10; value = 0 })) (is_true (le g (float MOST)) (le_trans_of g (pow 6) (float MOST) g_most limits.1))

  pub count_accepted : (count_c x one MOST).refusal ≡ 0
  unfolding count_c
  count_accepted = none (nine c) (limited_c g MOST).refusal (nine_none c c_finite) (ap (λ (n : Checked ℕ). n.refusal) taken)

  pub count_most : (count_c x one MOST).value ≤ 64
  unfolding count_c
  count_most = subst (λ (n : Checked ℕ). n.value ≤ 64) (sym taken) (at_most g 64 (omega arith) (le_trans_of g (pow 6) (float 64) g_most limits.0))

-- ---- the angles of the points are within 1,048,576

float_upto : (k : ℕ) → k ≤ 64 → Upto (pow 6) (float k)
unfolding of_int
float_upto k h = subst (λ (v : Float). T (le v (pow 6))) (sym (fabs_round binary64 false k 1)) (unfold round in round_mono binary64 k 1 64 1 (zero-lt-suc 0) (zero-lt-suc 0) (omega arith))

float_least : (n : ℕ) → 1 ≤ n → n ≤ 64 → T (le (fin false 1 (negsuc 0)) (fabs (float n)))
unfolding of_int
float_least n h k =
    subst (λ (v : Float). T (le (fin false 1 (negsuc 0)) v)) (sym (fabs_round binary64 false n 1))
    (le_trans_of (fin false 1 (negsuc 0)) unit (round binary64 false n 1) (unfold le lt eq in tt) (unfold round in round_mono binary64 1 1 n 1 (zero-lt-suc 0) (zero-lt-suc 0) (omega arith)))

pow_within : (x : Float) → Upto (pow 20) x → T (within x)
unfolding within neg of_bits
pow_within x h = let b = upto_in (pow 20) x h in and_i (le (fin true 1 (pos 20)) x) (le x (pow 20)) b.0 b.1

turn_upto : (turn : Float) → Turn true turn → Upto (pow 3) turn
unfolding neg le lt eq of_bits
turn_upto turn h = in_upto (pow 3) turn (le_trans_of (neg (pow 3)) zero turn tt (lt_le zero turn h.0), le_trans_of turn tau (pow 3) h.1 tt)

angle_within_lem : (turn : Float) (n k : ℕ) → Turn true turn → 1 ≤ n → n ≤ 64 → k ≤ n → T (within (div binary64 (mul binary64 turn (float k)) (float n)))
angle_within_lem turn n k h N L K =
    let t = div binary64 (mul binary64 turn (float k)) (float n) in
    pow_within t
    (pow_wider 10 20 t (omega arith)
    (pow_div 9 0 (mul binary64 turn (float k)) (float n) (omega arith) (pow_mul 3 6 turn (float k) (omega arith) (turn_upto turn h) (float_upto k (omega arith))) (pow_finite 6 (float n) (float_upto n L)) (float_least n N L)))

-- ---- the points

tau_facts : T (is_finite tau) × T (lt nought tau)
unfolding is_finite lt of_bits
tau_facts = (tt, tt)

tau_size : fabs tau ≡ tau
unfolding fabs of_bits
tau_size = refl

tau_below : T (le (neg tau) zero)
unfolding neg le lt eq of_bits
tau_below = tt

module _ (center axis : Vec3) (radius : Float) (from to : Vec3) (chord : Float) (H : Handed center axis radius from to) (W : T (within chord)) (P : T (not (lt chord zero))) where
  abbrev turn : Float
  turn = (sweep_c center axis from to).value

  turned : Turn true turn
  turned = sweep_range center axis from to H.center H.axis H.start H.end

  abbrev part : Float
  part = div binary64 turn tau

  part_upto : Upto unit part
  part_upto =
      div_most turn tau tau_facts.0 (above_zero tau tau_facts.0 tau_facts.1)
      (subst (λ (v : Float). T (le (fabs turn) v)) (sym tau_size) (in_upto tau turn (le_trans_of (neg tau) zero turn tau_below (lt_le zero turn turned.0), turned.1)))

  abbrev per : Float
  per = (per_turn_c radius chord).value

  per_upto : Upto (pow 6) per
  per_upto =
      let r = per_turn_range radius chord H.radius W P in
      in_upto (pow 6) per (le_trans_of (neg (pow 6)) fewest per (unfold neg le lt eq of_bits in tt) r.0, le_trans_of per most (pow 6) r.1 (unfold le lt eq of_bits in tt))

  abbrev q : Float
  q = mul binary64 part per

  q_upto : Upto (pow 6) q
  unfolding mul
  q_upto = upto_mul binary64 unit (pow 6) tt tt part per part_upto per_upto

  part_finite : T (is_finite part)
  part_finite = pow_finite 0 part part_upto

  pub cut_accepted : (cut_c center axis radius from to chord).refusal ≡ 0
  cut_accepted =
      cut_refusal center axis radius from to chord
      ∙ none _ _ (sweep_accepted center axis from to H.center H.axis H.start H.end)
      (none _ _ (nine_none part part_finite) (none _ _ (per_turn_accepted radius chord H.radius W P) (count_accepted q q_upto)))

  abbrev cut : Cut
  cut = (cut_c center axis radius from to chord).value

  pub chords_most : cut.chords ≤ 64
  unfolding cut_c
  chords_most = count_most q q_upto

  abbrev points : ℕ
  points = cut.chords - 1

  -- the same points as those of the rim, which is worked out once
  abbrev rim : ℕ → Checked Vec3
  rim = rimmed center axis radius from cut

  rim_accepted : T (lt zero (off_length center axis from)) → (k : ℕ) → 1 ≤ k → k ≤ points → (rim k).refusal ≡ 0
  unfolding cut_c
  rim_accepted l k K L =
      let t = div binary64 (mul binary64 turn (float k)) (float cut.chords) in
      rim_at_refusal (rim_of center axis (radius_vector_c center axis radius from).value) cut.turn cut.chords k
      ∙ sym (turned_refusal center axis (radius_vector_c center axis radius from).value t)
      ∙ turned_accepted center axis radius from t H.center H.axis H.radius H.start (angle_within_lem turn cut.chords k turned (omega arith) chords_most (omega arith)) l

  abbrev inner : ℕ → Checked Vec3
  inner = inner_c center axis radius from cut

  all_accepted : T (lt zero (off_length center axis from)) → (m : ℕ) → m ≤ points → (up_to inner m).refusal ≡ 0
  unfolding up_to
  all_accepted l N.zero h = refl
  all_accepted l (suc m) h =
      let spoke = spoke_found center axis radius from H.center H.axis H.radius H.start l in
      none _ _ (all_accepted l m (omega arith)) (first_zero (inner (suc m)).refusal ∙ own_refusal center axis radius from cut (suc m) ∙ none _ _ spoke (rim_accepted l (suc m) (omega arith) h))

  -- from the first point on
  all_missed : lt zero (off_length center axis from) ≡ false → (m : ℕ) → (up_to inner (suc m)).refusal ≡ NOT_FINITE
  unfolding up_to first
  all_missed e N.zero = first_zero (inner 1).refusal ∙ own_refusal center axis radius from cut 1 ∙ rw (spoke_missed center axis radius from H.center H.axis H.radius H.start e) refl
  all_missed e (suc m) = rw (all_missed e m) refl

  refusal_is : (m : ℕ) → m ≤ points → (up_to inner m).refusal ≡ cond (is_none m || lt zero (off_length center axis from)) 0 NOT_FINITE
  refusal_is N.zero h = unfold up_to in refl
  refusal_is (suc m) h = by (lt zero (off_length center axis from)) refl
    where
      by : (b : Bool) → lt zero (off_length center axis from) ≡ b → (up_to inner (suc m)).refusal ≡ cond b 0 NOT_FINITE
      by true e = all_accepted (subst T (sym e) tt) (suc m) h
      by false e = all_missed e m

  settled_is : (room : ℕ) → inners_due center axis radius from cut room ≡ fits room points (cond (is_none points || lt zero (off_length center axis from)) (due (up_to rim points).value) (refused NOT_FINITE))
  unfolding inners_due
  settled_is room = ap (λ (d : Due (List Vec3)). fits room points d) (rw (refusal_is points (omega arith), up_to_same inner rim (same_value center axis radius from cut) points) (by (is_none points || lt zero (off_length center axis from))))
    where
      by : (b : Bool) → settled (cond b 0 NOT_FINITE) (up_to rim points).value ≡ cond b (due (up_to rim points).value) (refused NOT_FINITE)
      by true = settled_none (up_to rim points).value
      by false = unfold settled in refl

  -- three numbers for each point fit into 189
  pub row_suffices : (room : ℕ) → 189 ≤ room → leb (3 * points) room ≡ true
  row_suffices room h = le-leb (3 * points) room (omega (arith, chords_most))

-- `Arc::inner_points`, for all arguments: once 1 and 5 are passed, a row that is too short is
-- refused by 6; then 9 is met exactly where there is a point due and the start lies on the axis, as
-- rounded; any other call gives the points
pub inner_answer : (arc : Arc) (from to : Vec3) (chord : Float) (room : ℕ)
    → inner_points_due arc from to chord room
    ≡ passing (fails OUT_OF_RANGE (chord_within arc.center arc.axis arc.radius from to chord) or chord_test chord)
    (fits room (points_of arc from to chord) (cond (is_none (points_of arc from to chord) || lt zero (off_length arc.center arc.axis from)) (due (rim_points arc from to chord)) (refused NOT_FINITE)))
unfolding inner_points_due chord_within chord_test first fails passing
inner_answer arc from to chord room = by (ends_within arc.center arc.axis arc.radius from to) (within chord) (not (lt chord zero)) (λ h w p. after (handed_in arc.center arc.axis arc.radius from to h) w p)
  where
    after : Handed arc.center arc.axis arc.radius from to → T (within chord) → T (not (lt chord zero))
        → and_then (answered (cut_c arc.center arc.axis arc.radius from to chord)) (λ cut. inners_due arc.center arc.axis arc.radius from cut room)
        ≡ fits room (points_of arc from to chord) (cond (is_none (points_of arc from to chord) || lt zero (off_length arc.center arc.axis from)) (due (rim_points arc from to chord)) (refused NOT_FINITE))
    after H w p =
        ap (λ (d : Due Cut). and_then d (λ cut. inners_due arc.center arc.axis arc.radius from cut room)) (ap (λ (r : ℕ). settled r (cut_c arc.center arc.axis arc.radius from to chord).value) (cut_accepted arc.center arc.axis arc.radius from to chord H w p) ∙ settled_none (cut_c arc.center arc.axis arc.radius from to chord).value)
        ∙ settled_is arc.center arc.axis arc.radius from to chord H w p room

    by : (h w p : Bool) → (T h → T w → T p → and_then (answered (cut_c arc.center arc.axis arc.radius from to chord)) (λ cut. inners_due arc.center arc.axis arc.radius from cut room) ≡ fits room (points_of arc from to chord) (cond (is_none (points_of arc from to chord) || lt zero (off_length arc.center arc.axis from)) (due (rim_points arc from to chord)) (refused NOT_FINITE)))
        → passing (fails OUT_OF_RANGE (h && w) or fails BAD_TOLERANCE p) (and_then (answered (cut_c arc.center arc.axis arc.radius from to chord)) (λ cut. inners_due arc.center arc.axis arc.radius from cut room))
        ≡ passing (fails OUT_OF_RANGE (h && w) or fails BAD_TOLERANCE p) (fits room (points_of arc from to chord) (cond (is_none (points_of arc from to chord) || lt zero (off_length arc.center arc.axis from)) (due (rim_points arc from to chord)) (refused NOT_FINITE)))
    by true true true f = f tt tt tt
    by true true false f = refl
    by true false p f = refl
    by false w p f = refl
