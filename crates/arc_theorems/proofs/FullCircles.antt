-- How to tell a full circle. A turn counterclockwise is 2π exactly where the arctangent that it
-- comes from lies in [-2^-51, 0], and one clockwise is -2π exactly where it lies in [0, 2^-51]:
-- such an end lies behind the start by at most 2^-51, about 4.4 / 10^16, and beside 2π that is lost
-- in rounding. Any other end is told from the start. Assumes nothing.
use Rattle.std.specs.Prelude.{◌≡◌, refl, Bool, true, false, cond, ◌&&◌, T, Float}
use Rattle.std.proofs.Common.{sym, ◌∙◌, subst, arith, lit≤}
use Rattle.std.proofs.Math.Dec.{not_T}
use Rattle.std.specs.Float.{binary64}
use Rattle.std.specs.Float.Ieee.{add, sub, neg, le, lt, eq, fits, of_bits}
use Rattle.std.specs.Float.Ieee.Bits.{is_true, is_false}
use Rattle.checked.specs.Checked.{is_finite, num, ◌⊕◌, ◌⊖◌}
use Rattle.checked.specs.Numbers.{literal, zero, pi, tau}
use Rattle.order.specs.Order.{eq_le, eq_sym, le_antisym, le_trans_of, lt_not_le}
use Rattle.profile_arcs.specs.Angles.{ahead_c, back_c}
use Rattle.float_bounds.specs.Parts.{nought}
use Rattle.float_bounds.proofs.Intervals.{in_add, in_sub, in_finite}
use Rattle.float_bounds.proofs.Neighbours.{next_down, next_up}
use Rattle.libm_ranges.specs.Quadrants.{Angle}
use Rattle.vectors.specs.declared.Vec2.{Vec2}
use Rattle.vectors.specs.declared.Vec3.{Vec3}
use Rattle.vectors.specs.Vectors.{within2, minus_c}
use Rattle.profile_arcs.specs.declared.ProfileArc.{ProfileArc}
use Rattle.profile_arcs.specs.Profiles.{turn_c}
use Rattle.arcs.specs.declared.Arc.{Arc}
use Rattle.arcs.specs.Sweep.{ends_within, sweep_from_c, sweep_c}
use Rattle.arc_theorems.specs.Sizes.{within_upto3}
use Rattle.arc_theorems.proofs.Turns.{handed_in, away, turn_angle_lem, turn_fits, sweep_from_angle, sweep_from_fits}
use Rattle.arc_theorems.specs.Same.{by_sense}
use Rattle.arc_theorems.specs.FullCircles.{lost, is_lost_behind, is_lost_ahead, sweep_angle, turn_angle}

-- ---- a turn counterclockwise

abbrev after : Float
after = literal 0x3cc0_0000_0000_0001

-- a test's outcome as a fact, of 0 as `bounds` has it
below : (t : Float) → le t zero ≡ true → T (le t nought)
unfolding of_bits
below t e = subst T (sym e) tt

above : (t : Float) → le zero t ≡ true → T (le nought t)
unfolding of_bits
above t e = subst T (sym e) tt

-- what is lost, and what is not
raised : (t : Float) → T (le (neg lost) t) → T (le t zero) → T (eq (add binary64 t tau) tau)
unfolding add neg le lt eq of_bits is_finite
raised t l h =
    let s = in_add (neg lost) zero tau tau tt tt tt tt t tau (l, h) (tt, tt) in
    le_antisym (add binary64 t tau) tau s.1 s.0

short : (t : Float) → Angle t → T (le t (neg after)) → T (eq (add binary64 t tau) tau) → ⊥
unfolding add neg le lt eq of_bits is_finite
short t a h e =
    let s = in_add (neg pi) (neg after) tau tau tt tt tt tt t tau (a.0, h) (tt, tt) in
    lt_not_le (add binary64 (neg after) tau) tau tt (le_trans_of tau (add binary64 t tau) (add binary64 (neg after) tau) (eq_le tau (add binary64 t tau) (eq_sym (add binary64 t tau) tau e)) s.1)

angle_finite : (t : Float) → Angle t → T (is_finite t)
unfolding neg of_bits is_finite
angle_finite t a = in_finite (neg pi) pi t tt tt a

half_way : (t : Float) → Angle t → T (eq t tau) → ⊥
half_way t a e = lt_not_le pi tau (unfold lt of_bits in tt) (le_trans_of tau t pi (eq_le tau t (eq_sym t tau e)) a.1)

pub ahead_full : (t : Float) → Angle t → T (fits binary64 t) → eq (ahead_c t).value tau ≡ is_lost_behind t
unfolding ahead_c
ahead_full t a F = by (le t zero) refl (le (neg lost) t) refl
  where
    by : (b : Bool) → le t zero ≡ b → (c : Bool) → le (neg lost) t ≡ c → eq (cond b (num t ⊕ num tau) (num t)).value tau ≡ (c && b)
    by false e c k = is_false (eq t tau) (not_T (eq t tau) (half_way t a)) ∙ none c
      where
        none : (c : Bool) → false ≡ (c && false)
        none true = refl
        none false = refl
    by true e true k = is_true (eq (add binary64 t tau) tau) (raised t (subst T (sym k) tt) (subst T (sym e) tt))
    by true e false k = is_false (eq (add binary64 t tau) tau) (not_T (eq (add binary64 t tau) tau) (short t a (next_down 0x3cc0_0000_0000_0000 t (lit≤ tt) F (angle_finite t a) (below t e) k)))

-- ---- a turn clockwise

lowered : (t : Float) → T (le zero t) → T (le t lost) → T (eq (sub binary64 t tau) (neg tau))
unfolding sub neg le lt eq of_bits is_finite
lowered t h l =
    let s = in_sub zero lost tau tau tt tt tt tt t tau (h, l) (tt, tt) in
    le_antisym (sub binary64 t tau) (neg tau) s.1 s.0

beyond : (t : Float) → Angle t → T (le after t) → T (eq (sub binary64 t tau) (neg tau)) → ⊥
unfolding sub neg le lt eq of_bits is_finite
beyond t a h e =
    let s = in_sub after pi tau tau tt tt tt tt t tau (h, a.1) (tt, tt) in
    lt_not_le (neg tau) (sub binary64 after tau) tt (le_trans_of (sub binary64 after tau) (sub binary64 t tau) (neg tau) s.0 (eq_le (sub binary64 t tau) (neg tau) e))

half_back : (t : Float) → Angle t → T (eq t (neg tau)) → ⊥
half_back t a e = lt_not_le (neg tau) (neg pi) (unfold neg lt of_bits in tt) (le_trans_of (neg pi) t (neg tau) a.0 (eq_le t (neg tau) e))

pub back_full : (t : Float) → Angle t → T (fits binary64 t) → eq (back_c t).value (neg tau) ≡ is_lost_ahead t
unfolding back_c
back_full t a F = by (le zero t) refl (le t lost) refl
  where
    by : (b : Bool) → le zero t ≡ b → (c : Bool) → le t lost ≡ c → eq (cond b (num t ⊖ num tau) (num t)).value (neg tau) ≡ (b && c)
    by false e c k = is_false (eq t (neg tau)) (not_T (eq t (neg tau)) (half_back t a))
    by true e true k = is_true (eq (sub binary64 t tau) (neg tau)) (lowered t (subst T (sym e) tt) (subst T (sym k) tt))
    by true e false k = is_false (eq (sub binary64 t tau) (neg tau)) (not_T (eq (sub binary64 t tau) (neg tau)) (beyond t a (next_up 0x3cc0_0000_0000_0000 t (lit≤ tt) F (angle_finite t a) (above t e) k)))

-- a sweep is a full circle exactly where its end lies behind its start by at most 2^-51, or on its
-- direction
pub sweep_full : (arc : Arc) (from to : Vec3) → T (ends_within arc.center arc.axis arc.radius from to) → eq (sweep_c arc.center arc.axis from to).value tau ≡ is_lost_behind (sweep_angle arc from to)
unfolding sweep_c sweep_from_c
sweep_full arc from to h =
    let g = handed_in arc.center arc.axis arc.radius from to h in
    let u = (minus_c from arc.center).value in
    let U = away arc.center arc.axis from to g.center g.axis g.start g.end in
    let A = within_upto3 arc.axis g.axis in
    ahead_full (sweep_angle arc from to) (sweep_from_angle arc.center arc.axis 21 21 u to (omega arith) A (U from g.start) (U to g.end)) (sweep_from_fits arc.center arc.axis 21 21 u to (omega arith) A (U from g.start) (U to g.end))

-- a turn is a full circle, counterclockwise or clockwise, exactly where its end is that near behind
-- its start in the turn's sense
pub turn_full : (arc : ProfileArc) (a b : Vec2) → T (within2 arc.center) → T (within2 a) → T (within2 b)
    → eq (turn_c arc a b).value (by_sense arc.ccw) ≡ cond arc.ccw (is_lost_behind (turn_angle arc a b)) (is_lost_ahead (turn_angle arc a b))
unfolding turn_c
turn_full arc a b C A B = by arc.ccw
  where
    by : (ccw : Bool) → eq (cond ccw (ahead_c (turn_angle arc a b)) (back_c (turn_angle arc a b))).value (by_sense ccw) ≡ cond ccw (is_lost_behind (turn_angle arc a b)) (is_lost_ahead (turn_angle arc a b))
    by true = ahead_full (turn_angle arc a b) (turn_angle_lem arc a b C A B) (turn_fits arc a b C A B)
    by false = back_full (turn_angle arc a b) (turn_angle_lem arc a b C A B) (turn_fits arc a b C A B)
