-- How far arcs turn: a turn counterclockwise is above 0 and at most 2π, one clockwise is below 0
-- and at least −2π, 2π as rounded. No number that passes the test of what is handed in is refused.
-- Assumes nothing.
use Rattle.std.specs.Prelude.{◌≡◌, refl, Bool, true, false, cond, ◌&&◌, ℕ, suc, ◌+◌, ◌≤◌, T, Float}
use Rattle.std.proofs.Common.{sym, ◌∙◌, subst, arith}
use Rattle.std.specs.Float.Ieee.{binary64, add, sub, mul, neg, le, lt, eq, fits, is_nan, of_bits}
use Rattle.std.specs.Float.Ieee.Fits.{and_l, and_r, add-fits, sub-fits}
use Rattle.std.specs.Float.Ieee.Bits.{is_true}
use Rattle.checked.specs.Checked.{is_finite, nine, within, due, num, ◌⊕◌, ◌⊖◌}
use Rattle.checked.specs.Tests.{fails, passing}
use Rattle.checked.specs.Laws.{settled_none}
use Rattle.order.specs.Order.{Number, le_numbers, le_trans_of, lt_le}
use Rattle.checked.specs.Numbers.{zero, pi, tau}
use Rattle.libm.specs.Atan2.{atan2}
use Rattle.vectors.specs.declared.Vec2.{Vec2}
use Rattle.vectors.specs.declared.Vec3.{Vec3}
use Rattle.vectors.specs.Vectors.{within2, within3, minus_c, cross_c, dot_c}
use Rattle.profile_arcs.specs.Angles.{ahead_c, back_c}
use Rattle.profile_arcs.specs.declared.ProfileArc.{ProfileArc}
use Rattle.profile_arcs.specs.Profiles.{apart_c, turn_c, turn_due}
use Rattle.profile_arcs.specs.Laws.{turn_refusal}
use Rattle.arcs.specs.declared.Arc.{Arc}
use Rattle.arcs.specs.Sweep.{circle_within, ends_within, sweep_from_c, sweep_c}
use Rattle.arcs.specs.Entries.{sweep_due}
use Rattle.arcs.specs.SweepLaws.{rise, run, sweep_from_noted, sweep_refusal}
use Rattle.float_bounds.proofs.Comparing.{lt_le_trans, le_lt_trans, not_le_lt}
use Rattle.float_bounds.specs.Intervals.{In, Upto}
use Rattle.float_bounds.proofs.Intervals.{in_add, in_sub, in_finite}
use Rattle.float_bounds.specs.Powers.{pow}
use Rattle.float_bounds.proofs.Powers.{pow_finite, pow_mul, pow_add_of, pow_sub}
use Rattle.arc_theorems.specs.Sizes.{Upto3, none, nine_none, three_none, apart2, within_upto3, minus3, dot3, cross3}
use Rattle.libm_ranges.specs.Quadrants.{Angle}
use Rattle.libm_ranges.proofs.Quadrants.{atan2_range, atan2_finite}
use Rattle.libm_ranges.specs.Fitting.{atan2_fits}
use Rattle.arc_theorems.specs.Turns.{Turn, Handed}

-- ---- from an angle in [−π, π]

zero_number : Number zero
unfolding is_nan of_bits
zero_number = tt

raised : (t : Float) → In (neg pi) zero t → Turn true (add binary64 t tau)
unfolding add neg le lt eq of_bits is_finite
raised t h =
    let s = in_add (neg pi) zero tau tau tt tt tt tt t tau h (tt, tt) in
    (lt_le_trans zero (add binary64 (neg pi) tau) (add binary64 t tau) tt s.0, le_trans_of (add binary64 t tau) (add binary64 zero tau) tau s.1 tt)

lowered : (t : Float) → In zero pi t → Turn false (sub binary64 t tau)
unfolding sub neg le lt eq of_bits is_finite
lowered t h =
    let s = in_sub zero pi tau tau tt tt tt tt t tau h (tt, tt) in
    (le_trans_of (neg tau) (sub binary64 zero tau) (sub binary64 t tau) tt s.0, le_lt_trans (sub binary64 t tau) (sub binary64 pi tau) zero s.1 tt)

less_than_whole : T (le pi tau) × T (le (neg tau) (neg pi))
unfolding neg le lt eq of_bits
less_than_whole = (tt, tt)

pub ahead_turn : (t : Float) → Angle t → Turn true (ahead_c t).value
unfolding ahead_c
ahead_turn t h = by (le t zero) refl
  where
    by : (b : Bool) → le t zero ≡ b → Turn true (cond b (num t ⊕ num tau) (num t)).value
    by true e = raised t (h.0, subst T (sym e) tt)
    by false e = (not_le_lt t zero (le_numbers (neg pi) t h.0).1 zero_number e, le_trans_of t pi tau h.1 less_than_whole.0)

pub back_turn : (t : Float) → Angle t → Turn false (back_c t).value
unfolding back_c
back_turn t h = by (le zero t) refl
  where
    by : (b : Bool) → le zero t ≡ b → Turn false (cond b (num t ⊖ num tau) (num t)).value
    by true e = lowered t (subst T (sym e) tt, h.1)
    by false e = (le_trans_of (neg tau) (neg pi) t less_than_whole.1 h.0, not_le_lt zero t zero_number (le_numbers (neg pi) t h.0).1 e)

-- what turns is finite
turn_finite : (ccw : Bool) (v : Float) → Turn ccw v → T (is_finite v)
unfolding neg of_bits is_finite
turn_finite true v h = in_finite zero tau v tt tt (lt_le zero v h.0, h.1)
turn_finite false v h = in_finite (neg tau) zero v tt tt (h.0, lt_le v zero h.1)

-- ---- `ProfileArc::turn`

module _ (arc : ProfileArc) (a b : Vec2) (C : T (within2 arc.center)) (A : T (within2 a)) (B : T (within2 b)) where
  abbrev u : Vec2
  u = (apart_c arc.center a).value

  abbrev v : Vec2
  v = (apart_c arc.center b).value

  U : Upto (pow 21) (sub binary64 a.x arc.center.x) × Upto (pow 21) (sub binary64 a.y arc.center.y)
  U = apart2 arc.center a C A

  W : Upto (pow 21) (sub binary64 b.x arc.center.x) × Upto (pow 21) (sub binary64 b.y arc.center.y)
  W = apart2 arc.center b C B

  product : (m n : Float) → Upto (pow 21) m → Upto (pow 21) n → Upto (pow 42) (mul binary64 m n)
  product m n p q = pow_mul 21 21 m n (omega arith) p q

  -- the two numbers that the arctangent takes
  abbrev y : Float
  y = sub binary64 (mul binary64 u.x v.y) (mul binary64 u.y v.x)

  abbrev x : Float
  x = add binary64 (mul binary64 u.x v.x) (mul binary64 u.y v.y)

  fits_y : T (fits binary64 y)
  fits_y = sub-fits binary64 (mul binary64 u.x v.y) (mul binary64 u.y v.x)

  fits_x : T (fits binary64 x)
  fits_x = add-fits binary64 (mul binary64 u.x v.x) (mul binary64 u.y v.y)

  crossed : T (is_finite y)
  unfolding apart_c
  crossed = pow_finite 43 y (pow_sub 42 (mul binary64 u.x v.y) (mul binary64 u.y v.x) (omega arith) (product u.x v.y U.0 W.1) (product u.y v.x U.1 W.0))

  dotted : T (is_finite x)
  unfolding apart_c
  dotted = pow_finite 43 x (pow_add_of 42 (mul binary64 u.x v.x) (mul binary64 u.y v.y) (omega arith) (product u.x v.x U.0 W.0) (product u.y v.y U.1 W.1))

  turned : (ccw : Bool) (t : Float) → Angle t → Turn ccw (cond ccw (ahead_c t) (back_c t)).value
  turned true t h = ahead_turn t h
  turned false t h = back_turn t h

  -- the arctangent, in [−π, π]
  pub turn_angle_lem : Angle (atan2 y x)
  turn_angle_lem = atan2_range y x crossed dotted fits_y fits_x

  pub turn_fits : T (fits binary64 (atan2 y x))
  turn_fits = atan2_fits y x fits_y

  pub turn_range : Turn arc.ccw (turn_c arc a b).value
  unfolding turn_c
  turn_range = turned arc.ccw (atan2 y x) turn_angle_lem

  pub turn_accepted : (turn_c arc a b).refusal ≡ 0
  turn_accepted =
      turn_refusal arc a b
      ∙ none _ (nine (turn_c arc a b).value) (three_none y x (atan2 y x) crossed dotted (atan2_finite y x crossed dotted fits_y fits_x)) (nine_none (turn_c arc a b).value (turn_finite arc.ccw (turn_c arc a b).value turn_range))

-- ---- `Arc::sweep`, from a start that lies at u from the centre to a point that lies at most 2 ^ k from it in each coordinate

module _ (center axis : Vec3) (j k : ℕ) (u p : Vec3) (small : j + k ≤ 990) (A : Upto3 20 axis) (U : Upto3 j u) (W : Upto3 k (minus_c p center).value) where
  abbrev reached : Vec3
  reached = (minus_c p center).value

  rise_finite : T (is_finite (rise center axis u p))
  rise_finite = pow_finite (suc (suc (20 + suc (j + k)))) (rise center axis u p) (dot3 20 (suc (j + k)) axis (cross_c u reached).value (omega arith) A (cross3 j k u reached (omega arith) U W))

  run_finite : T (is_finite (run center u p))
  run_finite = pow_finite (suc (suc (j + k))) (run center u p) (dot3 j k u reached (omega arith) U W)

  dot_fits : (a b : Vec3) → T (fits binary64 (dot_c a b).value)
  unfolding dot_c
  dot_fits a b = add-fits binary64 (add binary64 (mul binary64 a.x b.x) (mul binary64 a.y b.y)) (mul binary64 a.z b.z)

  -- the arctangent, in [−π, π]
  pub sweep_from_angle : Angle (atan2 (rise center axis u p) (run center u p))
  sweep_from_angle = atan2_range (rise center axis u p) (run center u p) rise_finite run_finite (dot_fits axis (cross_c u reached).value) (dot_fits u reached)

  pub sweep_from_fits : T (fits binary64 (atan2 (rise center axis u p) (run center u p)))
  sweep_from_fits = atan2_fits (rise center axis u p) (run center u p) (dot_fits axis (cross_c u reached).value)

  pub sweep_from_range : Turn true (sweep_from_c center axis u p).value
  unfolding sweep_from_c
  sweep_from_range = ahead_turn (atan2 (rise center axis u p) (run center u p)) sweep_from_angle

  pub sweep_from_accepted : (sweep_from_c center axis u p).refusal ≡ 0
  sweep_from_accepted = sweep_from_noted center axis u p ∙ three_none (rise center axis u p) (run center u p) (sweep_from_c center axis u p).value rise_finite run_finite (turn_finite true (sweep_from_c center axis u p).value sweep_from_range)

module _ (center axis : Vec3) (from to : Vec3) (C : T (within3 center)) (A : T (within3 axis)) (P : T (within3 from)) (Q : T (within3 to)) where
  pub away : (p : Vec3) → T (within3 p) → Upto3 21 (minus_c p center).value
  away p P = minus3 20 p center (omega arith) (within_upto3 p P) (within_upto3 center C)

  pub sweep_range : Turn true (sweep_c center axis from to).value
  unfolding sweep_c
  sweep_range = sweep_from_range center axis 21 21 (minus_c from center).value to (omega arith) (within_upto3 axis A) (away from P) (away to Q)

  pub sweep_accepted : (sweep_c center axis from to).refusal ≡ 0
  sweep_accepted = sweep_refusal center axis from to ∙ sweep_from_accepted center axis 21 21 (minus_c from center).value to (omega arith) (within_upto3 axis A) (away from P) (away to Q)

-- ---- the answers of the two entries, for all arguments

pub turn_answer : (arc : ProfileArc) (a b : Vec2) → T (within2 arc.center && (within2 a && within2 b)) → (turn_due arc a b ≡ due (turn_c arc a b).value) × Turn arc.ccw (turn_c arc a b).value
turn_answer arc a b h =
    let C = and_l (within2 arc.center) (within2 a && within2 b) h in
    let ab = and_r (within2 arc.center) (within2 a && within2 b) h in
    let A = and_l (within2 a) (within2 b) ab in
    let B = and_r (within2 a) (within2 b) ab in
    (unfold turn_due fails passing in simp (is_true (within2 arc.center && (within2 a && within2 b)) h, turn_accepted arc a b C A B, settled_none), turn_range arc a b C A B)

pub handed_in : (center axis : Vec3) (radius : Float) (from to : Vec3) → T (ends_within center axis radius from to) → Handed center axis radius from to
unfolding ends_within circle_within
handed_in center axis radius from to h =
    let a = and_l (within3 center && (within3 axis && within radius)) (within3 from && within3 to) h in
    let e = and_r (within3 center && (within3 axis && within radius)) (within3 from && within3 to) h in
    let r = and_r (within3 center) (within3 axis && within radius) a in
    record {
      center = and_l (within3 center) (within3 axis && within radius) a;
      axis = and_l (within3 axis) (within radius) r;
      radius = and_r (within3 axis) (within radius) r;
      start = and_l (within3 from) (within3 to) e;
      end = and_r (within3 from) (within3 to) e;
    }

pub sweep_answer : (arc : Arc) (from to : Vec3) → T (ends_within arc.center arc.axis arc.radius from to)
    → (sweep_due arc from to ≡ due (sweep_c arc.center arc.axis from to).value) × Turn true (sweep_c arc.center arc.axis from to).value
sweep_answer arc from to h =
    let g = handed_in arc.center arc.axis arc.radius from to h in
    (unfold sweep_due fails passing in simp (is_true (ends_within arc.center arc.axis arc.radius from to) h, sweep_accepted arc.center arc.axis from to g.center g.axis g.start g.end, settled_none), sweep_range arc.center arc.axis from to g.center g.axis g.start g.end)
