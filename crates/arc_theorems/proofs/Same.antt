-- One point twice: an arc turns by 2π, for every arc and point. Assumes nothing.
use Rattle.std.specs.Prelude.{◌≡◌, refl, Bool, true, false, cond, ◌&&◌, ℕ, ◌+◌, ◌*◌, T, pos, Float}
use Rattle.std.proofs.Math.Path.{ap}
use Rattle.std.proofs.Common.{◌∙◌, mul-zero, mul-pos, zero-lt-suc, arith}
use Rattle.std.specs.Float.{nan, inf, fin, binary64}
use Rattle.std.specs.Float.Ieee.{up, down, round, unlike, add, sub, mul, neg, le, lt, eq, fits, is_nan, to_bits, of_bits}
use Rattle.std.specs.Float.Ieee.Fits.{add-fits, down_pos}
use Rattle.checked.specs.Refusals.{OUT_OF_RANGE}
use Rattle.checked.specs.Checked.{is_finite, within, due, settled, answered}
use Rattle.checked.specs.Tests.{fails, passing}
use Rattle.checked.specs.Laws.{settled_none}
use Rattle.float_bits.specs.FloatBits.{sign, choose}
use Rattle.checked.specs.Numbers.{pi, tau}
use Rattle.libm.specs.Atan.{atan}
use Rattle.libm.specs.Atan2.{atan2, angle, is_one}
use Rattle.vectors.specs.declared.Vec2.{Vec2}
use Rattle.vectors.specs.declared.Vec3.{Vec3}
use Rattle.vectors.specs.Vectors.{space, within2, within3, minus_c, cross_c, dot_c}
use Rattle.profile_arcs.specs.Angles.{ahead_c, back_c}
use Rattle.profile_arcs.specs.declared.ProfileArc.{ProfileArc}
use Rattle.profile_arcs.specs.Profiles.{apart_c, turn_c, turn_due}
use Rattle.arcs.specs.declared.Arc.{Arc}
use Rattle.arcs.specs.Entries.{sweep_due}
use Rattle.arcs.specs.Sweep.{circle_within, ends_within, sweep_from_c, sweep_c}
use Rattle.arcs.specs.SweepLaws.{rise, run}
use Rattle.float_bounds.specs.Parts.{nought}
use Rattle.float_bounds.proofs.Parts.{zero_round}
use Rattle.float_bounds.specs.Intervals.{Upto, plain}
use Rattle.float_bounds.proofs.Unsigned.{plain_sign, plain_number}
use Rattle.float_bounds.specs.Powers.{pow}
use Rattle.float_bounds.proofs.Powers.{pow_finite, pow_mul, pow_add_of}
use Rattle.arc_theorems.specs.Sizes.{Upto3, apart2, within_upto3, minus3}
use Rattle.arc_theorems.specs.Squares.{crossed_zero, square_plain, sum_plain, cross_self, dot_self}
use Rattle.arc_theorems.proofs.Turns.{turn_accepted, sweep_accepted}
use Rattle.arc_theorems.specs.Same.{nought_of, by_sense}

-- ---- the angle of a point on the half line of the angle 0

atan_zero : (s : Bool) → atan (nought_of s) ≡ nought_of s
unfolding atan to_bits
atan_zero true = refl
atan_zero false = refl

no_angle : (s : Bool) (m : ℕ) → m ≡ 0 → choose (2 * m + sign (nought_of s)) (nought_of s) (nought_of s) pi (neg pi) ≡ nought_of s
unfolding choose to_bits
no_angle true m h = ap (λ (k : ℕ). choose (2 * k + sign (nought_of true)) (nought_of true) (nought_of true) pi (neg pi)) h
no_angle false m h = ap (λ (k : ℕ). choose (2 * k + sign (nought_of false)) (nought_of false) (nought_of false) pi (neg pi)) h

either : (s b : Bool) {v : Float} → v ≡ nought_of s → cond b (atan (nought_of s)) v ≡ nought_of s
either s true h = atan_zero s
either s false h = h

angle_ahead : (s : Bool) (x : Float) → T (plain x) → T (fits binary64 x) → angle (nought_of s) x ≡ nought_of s
unfolding angle to_bits
angle_ahead true x X F = either true (is_one x) (no_angle true (sign x) (plain_sign x X F))
angle_ahead false x X F = either false (is_one x) (no_angle false (sign x) (plain_sign x X F))

pub atan2_ahead : (s : Bool) (x : Float) → T (plain x) → T (fits binary64 x) → atan2 (nought_of s) x ≡ nought_of s
unfolding atan2 is_nan
atan2_ahead s x X F = simp (plain_number x X) (angle_ahead s x X F)

-- ---- a turn by the angle 0

pub ahead_zero : (s : Bool) → (ahead_c (nought_of s)).value ≡ tau
unfolding ahead_c le add of_bits
ahead_zero true = refl
ahead_zero false = refl

pub back_zero : (s : Bool) → (back_c (nought_of s)).value ≡ neg tau
unfolding back_c le sub neg of_bits
back_zero true = refl
back_zero false = refl

module _ (arc : ProfileArc) (a : Vec2) (C : T (within2 arc.center)) (A : T (within2 a)) where
  abbrev dx : Float
  dx = sub binary64 a.x arc.center.x

  abbrev dy : Float
  dy = sub binary64 a.y arc.center.y

  abbrev xx : Float
  xx = mul binary64 dx dx

  abbrev yy : Float
  yy = mul binary64 dy dy

  X : Upto (pow 21) dx
  X = (apart2 arc.center a C A).0

  Y : Upto (pow 21) dy
  Y = (apart2 arc.center a C A).1

  product : (x y : Float) → Upto (pow 21) x → Upto (pow 21) y → Upto (pow 42) (mul binary64 x y)
  product x y p q = pow_mul 21 21 x y (omega arith) p q

  square : (x : Float) → Upto (pow 21) x → T (plain (mul binary64 x x))
  square x h = square_plain x (pow_finite 21 x h) (pow_finite 42 (mul binary64 x x) (product x x h h))

  crossed : sub binary64 (mul binary64 dx dy) (mul binary64 dy dx) ≡ nought
  crossed = crossed_zero dx dy (pow_finite 21 dx X) (pow_finite 21 dy Y) (pow_finite 42 (mul binary64 dx dy) (product dx dy X Y))

  dotted : T (plain (add binary64 xx yy))
  dotted = sum_plain xx yy (square dx X) (square dy Y) (pow_finite 43 (add binary64 xx yy) (pow_add_of 42 xx yy (omega arith) (product dx dx X X) (product dy dy Y Y)))

  no_turn : atan2 (sub binary64 (mul binary64 dx dy) (mul binary64 dy dx)) (add binary64 xx yy) ≡ nought
  no_turn = ap (λ (y : Float). atan2 y (add binary64 xx yy)) crossed ∙ atan2_ahead false (add binary64 xx yy) dotted (add-fits binary64 xx yy)

  sense : (ccw : Bool) → (cond ccw (ahead_c nought) (back_c nought)).value ≡ by_sense ccw
  sense true = ahead_zero false
  sense false = back_zero false

  pub turn_same : (turn_c arc a a).value ≡ by_sense arc.ccw
  unfolding turn_c apart_c
  turn_same = ap (λ (t : Float). (cond arc.ccw (ahead_c t) (back_c t)).value) no_turn ∙ sense arc.ccw

pub turn_whole : (arc : ProfileArc) (a : Vec2) → turn_due arc a a ≡ passing (fails OUT_OF_RANGE (within2 arc.center && (within2 a && within2 a))) (due (by_sense arc.ccw))
unfolding turn_due fails passing
turn_whole arc a = go (within2 arc.center) (within2 a) (λ C A. λ i. settled (turn_accepted arc a a C A A i) (turn_same arc a C A i))
  where
    go : (p q : Bool) → (T p → T q → answered (turn_c arc a a) ≡ settled 0 (by_sense arc.ccw)) → passing (fails OUT_OF_RANGE (p && (q && q))) (answered (turn_c arc a a)) ≡ passing (fails OUT_OF_RANGE (p && (q && q))) (due (by_sense arc.ccw))
    go true true h = h tt tt ∙ settled_none (by_sense arc.ccw)
    go true false h = refl
    go false q h = refl

-- ---- products with +0, and sums of zeros

mul_nought : (x : Float) → T (is_finite x) → (s : Bool) × (mul binary64 x nought ≡ nought_of s)
unfolding mul is_finite
mul_nought nan X = absurd X
mul_nought (inf s) X = absurd X
mul_nought (fin s m e) X = (unlike s false, ap (λ (k : ℕ). round binary64 (unlike s false) k (down e * 1)) (mul-zero (m * up e)) ∙ zero_round binary64 (unlike s false) (down e * 1) (mul-pos (down_pos e) (zero-lt-suc 0)))

add_noughts : (s t : Bool) → add binary64 (nought_of s) (nought_of t) ≡ nought_of (s && t)
unfolding add
add_noughts true true = refl
add_noughts true false = refl
add_noughts false true = refl
add_noughts false false = refl

dot_nought : (k : ℕ) (a : Vec3) → Upto3 k a → (s : Bool) × ((dot_c a (space nought nought nought)).value ≡ nought_of s)
unfolding dot_c
dot_nought k a h =
    let p = mul_nought a.x (pow_finite k a.x h.x) in
    let q = mul_nought a.y (pow_finite k a.y h.y) in
    let r = mul_nought a.z (pow_finite k a.z h.z) in
    (p.0 && q.0 && r.0, (λ i. add binary64 (add binary64 (p.1 i) (q.1 i)) (r.1 i)) ∙ ap (λ (v : Float). add binary64 v (nought_of r.0)) (add_noughts p.0 q.0) ∙ add_noughts (p.0 && q.0) r.0)

-- ---- `Arc::sweep`

module _ (center axis : Vec3) (p : Vec3) (C : T (within3 center)) (A : T (within3 axis)) (P : T (within3 p)) where
  abbrev u : Vec3
  u = (minus_c p center).value

  small : Upto3 21 u
  small = minus3 20 p center (omega arith) (within_upto3 p P) (within_upto3 center C)

  flat : (s : Bool) × (rise center axis u p ≡ nought_of s)
  flat =
      let d = dot_nought 20 axis (within_upto3 axis A) in
      (d.0, ap (λ (v : Vec3). (dot_c axis v).value) (cross_self 21 u (omega arith) small) ∙ d.1)

  flat_angle : atan2 (rise center axis u p) (run center u p) ≡ nought_of flat.0
  flat_angle = ap (λ (y : Float). atan2 y (run center u p)) flat.1 ∙ atan2_ahead flat.0 (run center u p) (dot_self 21 u (omega arith) small).0 (dot_self 21 u (omega arith) small).1

  pub sweep_same : (sweep_c center axis p p).value ≡ tau
  unfolding sweep_c sweep_from_c
  sweep_same = ap (λ (t : Float). (ahead_c t).value) flat_angle ∙ ahead_zero flat.0

pub sweep_whole : (arc : Arc) (p : Vec3) → sweep_due arc p p ≡ passing (fails OUT_OF_RANGE (ends_within arc.center arc.axis arc.radius p p)) (due tau)
unfolding sweep_due ends_within circle_within fails passing
sweep_whole arc p = go (within3 arc.center) (within3 arc.axis) (within arc.radius) (within3 p) (λ C A P. λ i. settled (sweep_accepted arc.center arc.axis p p C A P P i) (sweep_same arc.center arc.axis p C A P i))
  where
    go : (c a r q : Bool) → (T c → T a → T q → answered (sweep_c arc.center arc.axis p p) ≡ settled 0 tau) → passing (fails OUT_OF_RANGE ((c && (a && r)) && (q && q))) (answered (sweep_c arc.center arc.axis p p)) ≡ passing (fails OUT_OF_RANGE ((c && (a && r)) && (q && q))) (due tau)
    go true true true true h = h tt tt tt ∙ settled_none tau
    go true true true false h = refl
    go true true false q h = refl
    go true false r q h = refl
    go false a r q h = refl

-- Equal is not the same: at the centre (0, 0) the point (0, 0) and the equal point (-0, -0) are
-- half a turn apart.
abbrev zeros : Bool → Vec2
zeros s = record { x = nought_of s; y = nought_of s }

pub half_a_turn : (turn_c (record { center = zeros false; ccw = true }) (zeros false) (zeros true)).value ≡ pi
unfolding turn_c apart_c ahead_c atan2 angle is_one choose add sub mul neg le lt eq to_bits of_bits is_nan
half_a_turn = refl

abbrev zeros3 : Bool → Vec3
zeros3 s = space (nought_of s) (nought_of s) (nought_of s)

pub half_a_sweep : (sweep_c (zeros3 false) (space nought nought (fin false 1 (pos 0))) (zeros3 false) (zeros3 true)).value ≡ pi
unfolding sweep_c sweep_from_c minus_c cross_c dot_c ahead_c atan2 angle is_one choose add sub mul neg le lt eq to_bits of_bits is_nan
half_a_sweep = refl
