-- How close a straight cut stays to its box. `Rolled::uv_box` gives the box of a piece in the development, and `Rolled::at` its point at t. Of a
-- straight piece, one with neither an arc nor a trace, and for every t from 0 to 1 the point lies inside the box widened by 2 ^ -31 mm on each side
-- (`straight_cuts_stay`). A width does so exactly where it is 2 ^ -33 mm or more (`enough`, `needed`). It is said in whole numbers: the point and the
-- four coordinates of the box, times 2 ^ 1074 (`scaled` and `Between` of crates/float_bounds). What carries it is the limit of what is handed in: no
-- coordinate is above 2 ^ 20 in magnitude. Assumes nothing.
use Rattle.std.specs.Prelude.{ℕ, ◌+◌, ◌≤◌, ◌≡◌, refl, pos, negsuc, ◌+ℤ◌, ◌≤ℤ◌, Float, None}
use Rattle.std.proofs.Common.{sym, ◌∙◌, arith, lit≤, leb→le}
use Rattle.std.proofs.Math.Path.{ap, subst}
use Rattle.std.proofs.Math.Dec.{T}
use Rattle.std.specs.Float.{binary64}
use Rattle.std.specs.Float.Ieee.{add, sub, mul, le, lt, neg, eq, fits, of_bits}
use Rattle.std.specs.Float.Ieee.Bits.{is_true}
use Rattle.std.specs.Float.Ieee.Fits.{and_i, and_l, and_r}
use Rattle.checked.specs.Refusals.{OUT_OF_RANGE}
use Rattle.checked.specs.Checked.{first, given, nine, within, limit, due, settled}
use Rattle.checked.specs.Laws.{first_none}
use Rattle.checked.specs.Numbers.{literal, zero, one}
use Rattle.checked.specs.Tests.{fails, passing, neutral_test}
use Rattle.checked.specs.TestsLaws.{holds}
use Rattle.order.specs.Least.{negative, least, greatest}
use Rattle.order.specs.Order.{le_trans_of}
use Rattle.float_bounds.specs.Intervals.{In}
use Rattle.float_bounds.specs.Units.{F64, scale, units_in, scaled, Between}
use Rattle.float_bounds.proofs.Interpolation.{step_finite, point_finite, interpolated}
use Rattle.vectors.specs.Vectors.{origin, plane, space, within2, within3}
use Rattle.developments.specs.Developments.{development_within}
use Rattle.arc_theorems.specs.Sizes.{nine_none}
use Rattle.piece_curves.specs.declared.meet_curves.Place.{Place}
use Rattle.piece_curves.specs.declared.CurveKind.TheVariants as way
use Rattle.piece_curves.specs.PieceCurves.{curve_c, kind_c, curve_by}
use Rattle.piece_curves.specs.Points.{straight_c, at_c}
use Rattle.piece_curves.specs.PointsLaws.{straight_refusal}
use Rattle.piece_boxes.specs.declared.brackets.FlatBox.{FlatBox}
use Rattle.piece_boxes.specs.CurveBoxes.{ends, box_c}
use Rattle.pieces.specs.declared.Rolled.{Rolled}
use Rattle.pieces.specs.Pieces.{run_c}
use Rattle.pieces.specs.Tests.{arc_within, followed_within, both}
use Rattle.pieces.specs.Entries.{piece_within, tests, at_due, uv_box_due}
use Rattle.curve_theorems.specs.StraightCuts.{Straight, Inside, Stays, StraightCutsStay, guard, least_guard}

-- the ends are such t, and so is -0
part_ends : In zero one zero × In zero one (neg zero) × In zero one one
unfolding neg le lt eq of_bits
part_ends = ((tt, tt), (tt, tt), (tt, tt))

-- ---- a t from 0 to 1 passes the test of what is handed in
ends_within_lem : T (le (neg limit) zero) × T (le one limit)
unfolding neg le lt eq of_bits
ends_within_lem = (tt, tt)

part_within : (t : Float) → In zero one t → T (within t)
unfolding within
part_within t P = and_i (le (neg limit) t) (le t limit) (le_trans_of (neg limit) zero t ends_within_lem.0 P.0) (le_trans_of t one limit P.1 ends_within_lem.1)

-- ---- one coordinate, from f to g: no operation on the way is refused, and what is reached at t lies between the two but for 2 ^ -33 mm. Here the limit
-- comes in, by `within`
record Coordinate (f g t : Float) : Type 0 where
  difference : nine (sub binary64 g f) ≡ 0
  reached : nine (add binary64 f (mul binary64 (sub binary64 g f) t)) ≡ 0
  between : (w : ℕ) → least_guard ≤ w → Between w (least f g) (add binary64 f (mul binary64 (sub binary64 g f) t)) (greatest f g)

coordinate : (f g t : Float) → T (within f) → T (within g) → F64 f → F64 g → In zero one t → Coordinate f g t
coordinate f g t Wf Wg Ff Fg P = record {
  difference = nine_none _ (step_finite f g t Wf Wg P);
  reached = nine_none _ (point_finite f g t Wf Wg P);
  between = interpolated f g t Wf Wg P Ff Fg;
}

module _ (p : Rolled) (S : Straight p) (accepted : tests p ≡ 0) where
  -- ---- both calls go straight on
  run_is : run_c p ≡ given (curve_by p.from p.to p.dev.neutral way.Straight)
  unfolding run_c curve_c kind_c first
  run_is = λ i. curve_c p.from p.to p.dev.neutral (S.arc i) (S.trace i)

  box_is : uv_box_due p ≡ due (ends p.from p.to)
  unfolding uv_box_due box_c first settled passing
  box_is = λ i. passing (accepted i) (settled (first (run_is i).refusal (box_c (run_is i).value).refusal) (box_c (run_is i).value).value)

  -- ---- its ends are within the limit
  within_ends : T (within2 p.from) × T (within2 p.to)
  unfolding tests piece_within
  within_ends =
      let all : T (piece_within p) = subst T (sym (holds 0 (piece_within p) (first_none _ _ (first_none _ _ accepted).0).0)) tt in
      let r = and_r (development_within p.dev) _ all in
      (and_l (within2 p.from) _ r, and_l (within2 p.to) _ (and_r (within2 p.from) _ r))

  module _ (t : Float) (P : In zero one t) where
    along_u : Coordinate p.from.x p.to.x t
    unfolding within2
    along_u = coordinate p.from.x p.to.x t (and_l (within p.from.x) _ within_ends.0) (and_l (within p.to.x) _ within_ends.1) S.from_u S.to_u P

    along_v : Coordinate p.from.y p.to.y t
    unfolding within2
    along_v = coordinate p.from.y p.to.y t (and_r (within p.from.x) _ within_ends.0) (and_r (within p.to.x) _ within_ends.1) S.from_v S.to_v P

    abbrev place : Place
    place = (straight_c p.from p.to t).value

    none_met : (straight_c p.from p.to t).refusal ≡ 0
    unfolding straight_c first
    none_met = straight_refusal p.from p.to t ∙ λ i. first (along_u.difference i) (first (along_v.difference i) (first (along_u.reached i) (along_v.reached i)))

    at_is : at_due p t ≡ due place
    unfolding at_due at_c first settled passing fails
    at_is =
        (λ i. passing (first (fails OUT_OF_RANGE (is_true (within t) (part_within t P) i)) (accepted i)) (settled (first (run_is i).refusal (at_c (run_is i).value t).refusal) (at_c (run_is i).value t).value))
        ∙ ap (λ (r : ℕ). settled r place) none_met

    near : (w : ℕ) → least_guard ≤ w → Inside w (ends p.from p.to) place.p
    unfolding ends straight_c
    near w W = record { u = along_u.between w W; v = along_v.between w W }

-- ---- 2 ^ -33 mm is enough, and 2 ^ -31 mm the more so
pub enough : (w : ℕ) → least_guard ≤ w → StraightCutsStay w
enough w W p S accepted t P = record {
  flat = ends p.from p.to;
  at = place p S accepted t P;
  box_given = box_is p S accepted;
  at_given = at_is p S accepted t P;
  inside = near p S accepted t P w W;
}

pub straight_cuts_stay : StraightCutsStay guard
straight_cuts_stay = enough guard (lit≤ tt)

-- ---- and nothing less is: from u = -1048576 to the f64 number next below 1048576 the difference rounds up, and the point at t = 1 has u = 1048576
abbrev below_limit : Float
below_limit = literal 0x412f_ffff_ffff_ffff

abbrev piece : Rolled
piece = record {
  dev = record { origin = origin; axis = space zero zero one; start = space one zero zero; neutral = one };
  from = plane (neg limit) zero;
  to = plane below_limit zero;
  arc = None;
  trace = None;
}

piece_straight : Straight piece
unfolding fits of_bits neg
piece_straight = record { arc = refl; trace = refl; from_u = tt; from_v = tt; to_u = tt; to_v = tt }

piece_accepted : tests piece ≡ 0
unfolding tests piece_within development_within within3 within2 within arc_within followed_within both neutral_test fails first le lt eq neg of_bits
piece_accepted = refl

-- both calls on it at t = 1
at_one_lem : (w : ℕ) → StraightCutsStay w → Stays w piece one
at_one_lem w h = h piece piece_straight piece_accepted one part_ends.2

reaches : (at_one_lem guard straight_cuts_stay).at.p.x ≡ limit
unfolding at_one_lem straight_cuts_stay enough straight_c add sub mul neg of_bits
reaches = refl

ends_at : (at_one_lem guard straight_cuts_stay).flat.high.x ≡ below_limit
unfolding at_one_lem straight_cuts_stay enough ends greatest negative le lt eq neg of_bits
ends_at = refl

least_outside : scaled limit ≡ pos (units_in 0x1f_ffff_ffff_ffff (negsuc 32) + least_guard)
unfolding scaled scale of_bits
least_outside = refl

below_scaled : scaled below_limit ≡ pos (units_in 0x1f_ffff_ffff_ffff (negsuc 32))
unfolding scaled scale of_bits
below_scaled = refl

pub needed : (w : ℕ) → StraightCutsStay w → least_guard ≤ w
needed w h =
    let s = at_one_lem w h in
    let r = at_one_lem guard straight_cuts_stay in
    let at_is : s.at ≡ r.at = cc (sym s.at_given ∙ r.at_given) in
    let flat_is : s.flat ≡ r.flat = cc (sym s.box_given ∙ r.box_given) in
    outside (subst (λ (x : Float). scaled x ≤ℤ (scaled below_limit +ℤ pos w)) (ap (λ (p : Place). p.p.x) at_is ∙ reaches)
    (subst (λ (x : Float). scaled s.at.p.x ≤ℤ (scaled x +ℤ pos w)) (ap (λ (b : FlatBox). b.high.x) flat_is ∙ ends_at) s.inside.u.to))
  where
    more : (n a b : ℕ) → pos (n + a) ≤ℤ (pos n +ℤ pos b) → a ≤ b
    more n a b h = omega (arith, leb→le (n + a) (n + b) h.le)

    outside : scaled limit ≤ℤ (scaled below_limit +ℤ pos w) → least_guard ≤ w
    outside h = more (units_in 0x1f_ffff_ffff_ffff (negsuc 32)) least_guard w (rw (least_outside, below_scaled) at h)
