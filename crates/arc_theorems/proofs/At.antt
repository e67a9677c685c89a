-- A point of an arc is refused only where nothing is left of its start across the axis: for every
-- arc, start and angle whose numbers pass the test of what is handed in. Assumes nothing.
use Rattle.std.specs.Prelude.{◌≡◌, Bool, ◌&&◌, ℕ, eqb, ℤ, Float}
use Rattle.std.proofs.Math.Path.{refl, ap}
use Rattle.std.proofs.Common.{sym, ◌∙◌, subst, arith}
use Rattle.std.proofs.Math.Bool.{true, false, cond}
use Rattle.std.proofs.Math.Dec.{T, not_T}
use Rattle.std.specs.Float.{nan, inf, fin}
use Rattle.std.specs.Float.Ieee.{binary64, unlike, div, lt, of_bits}
use Rattle.std.specs.Float.Ieee.Bits.{is_false}
use Rattle.checked.specs.Refusals.{OUT_OF_RANGE, NOT_FINITE, ANGLE_TOO_LARGE}
use Rattle.checked.specs.Checked.{first, is_finite, nine, eight, within, due, refused, settled, answered}
use Rattle.checked.specs.Tests.{fails, passing}
use Rattle.checked.specs.Laws.{within_finite}
use Rattle.order.specs.Order.{le_trans_of}
use Rattle.float_bits.specs.FloatBits.{fabs}
use Rattle.vectors.specs.declared.Vec3.{Vec3}
use Rattle.checked.specs.Numbers.{zero}
use Rattle.vectors.specs.Vectors.{is_finite3, nines, within3, plus_c, minus_c, times_c, cross_c, dot_c}
use Rattle.vectors.specs.Laws.{times_right}
use Rattle.directions.specs.Directions.{length_c}
use Rattle.libm.specs.Sincos.{sines, sines_or_zeros, sincos_c}
use Rattle.arcs.specs.declared.Arc.{Arc}
use Rattle.arcs.specs.Entries.{at_due}
use Rattle.arcs.specs.Sweep.{circle_within}
use Rattle.rows.specs.CirclesLaws.{rim_refusal}
use Rattle.arcs.specs.Points.{angle_within, radius_vector_c, turned_c, at_c, rim_of}
use Rattle.arcs.specs.PointsLaws.{spoke_refusal, turned_refusal, turned_value}
use Rattle.float_bounds.proofs.Intervals.{le_fabs, finite_number}
use Rattle.float_bounds.proofs.Powers.{pow_div, within_pow}
use Rattle.float_bounds.specs.SquareRoots.{least_root}
use Rattle.float_bounds.proofs.SquareRoots.{sqrt_zero}
use Rattle.arc_theorems.specs.Sizes.{Upto3, none, nine_none, finite3, within_upto3, wider3, minus3, plus3, times3, cross3}
use Rattle.arc_theorems.specs.Squares.{dot_self}
use Rattle.arc_theorems.proofs.Points.{across3, length_finite, length_least}
use Rattle.libm_ranges.specs.Sines.{Bounded, sines_bounded}
use Rattle.arc_theorems.specs.At.{off, off_length}

nines_none : (k : ℕ) (v : Vec3) → Upto3 k v → nines v ≡ 0
unfolding nines
nines_none k v h = go (is_finite3 v) (finite3 k v h)
  where
    go : (b : Bool) → T b → ◌≡◌ {A = ℕ} (cond b 0 NOT_FINITE) 0
    go true t = refl
    go false t = absurd t

eight_none : (x : Float) → T (within x) → eight x ≡ 0
unfolding eight
eight_none x h = go (within x) h
  where
    go : (b : Bool) → T b → ◌≡◌ {A = ℕ} (cond b 0 ANGLE_TOO_LARGE) 0
    go true t = refl
    go false t = absurd t

due_sines : (t : Float) → T (within t) → Bounded (sines_or_zeros t)
unfolding sines_or_zeros
due_sines t h = go (within t) h
  where
    go : (b : Bool) → T b → Bounded (cond b (sines t) (record { sin = zero; cos = zero }))
    go true u = sines_bounded t h
    go false u = absurd u

-- nothing over zero is finite
over_zero : (x : Float) (e : ℤ) → T (is_finite (div binary64 x (fin false 0 e))) → ⊥
unfolding div is_finite
over_zero nan e h = h
over_zero (inf s) e h = h
over_zero (fin s m d) e h = go (eqb m 0) h
  where
    go : (b : Bool) → T (is_finite (cond b nan (inf (unlike s false)))) → ⊥
    go true h = h
    go false h = h

-- the angle's refusal, then the point's
notes : (center axis d : Vec3) (t : Float) → (turned_c center axis d t).refusal ≡ first (sincos_c t).refusal (nines (turned_c center axis d t).value)
notes center axis d t =
    turned_refusal center axis d t
    ∙ rim_refusal (rim_of center axis d) t
    ∙ ap (λ (v : Vec3). first (sincos_c t).refusal (nines v)) (sym (turned_value center axis d t))

module _ (center axis : Vec3) (radius : Float) (from : Vec3) (C : T (within3 center)) (A : T (within3 axis)) (R : T (within radius)) (P : T (within3 from)) where
  centred : Upto3 20 center
  centred = within_upto3 center C

  axial : Upto3 20 axis
  axial = within_upto3 axis A

  off_size : Upto3 64 (off center axis from)
  off_size = across3 21 axis (minus_c from center).value (omega arith) axial (minus3 20 from center (omega arith) (within_upto3 from P) centred)

  finite_length : T (is_finite (off_length center axis from))
  finite_length = length_finite 64 (off center axis from) (omega arith) off_size

  spoke_size : T (lt zero (off_length center axis from)) → Upto3 621 (radius_vector_c center axis radius from).value
  unfolding radius_vector_c
  spoke_size l =
      let len = off_length center axis from in
      times3 64 557 (off center axis from) (div binary64 radius len) (omega arith) off_size
      (pow_div 20 536 radius len (omega arith) (within_pow radius R) finite_length (le_trans_of least_root len (fabs len) (length_least 64 (off center axis from) (omega arith) off_size l) (le_fabs len (finite_number len finite_length))))

  -- the spoke, where the start lies off the axis
  pub spoke_found : T (lt zero (off_length center axis from)) → (radius_vector_c center axis radius from).refusal ≡ 0
  spoke_found l = spoke_refusal center axis radius from ∙ none _ _ (nine_none (off_length center axis from) finite_length) (nines_none 621 (radius_vector_c center axis radius from).value (spoke_size l))

  spoke_lost : lt zero (off_length center axis from) ≡ false → T (is_finite3 (radius_vector_c center axis radius from).value) → ⊥
  unfolding radius_vector_c length_c of_bits
  spoke_lost h f =
      let w = off center axis from in
      let z = sqrt_zero (dot_c w w).value (dot_self 64 w (omega arith) off_size).0 (dot_self 64 w (omega arith) off_size).1 h in
      over_zero radius z.0 (subst (λ (v : Float). T (is_finite (div binary64 radius v))) z.1 (times_right w (div binary64 radius (off_length center axis from)) f))

  lost : lt zero (off_length center axis from) ≡ false → nines (radius_vector_c center axis radius from).value ≡ NOT_FINITE
  unfolding nines
  lost h = ap (λ (b : Bool). cond b 0 NOT_FINITE) (is_false (is_finite3 (radius_vector_c center axis radius from).value) (not_T (is_finite3 (radius_vector_c center axis radius from).value) (spoke_lost h)))

  -- and where it lies on the axis
  pub spoke_missed : lt zero (off_length center axis from) ≡ false → (radius_vector_c center axis radius from).refusal ≡ NOT_FINITE
  unfolding first
  spoke_missed h = spoke_refusal center axis radius from ∙ λ i. first (nine_none (off_length center axis from) finite_length i) (lost h i)

module _ (center axis : Vec3) (radius : Float) (from : Vec3) (t : Float) (C : T (within3 center)) (A : T (within3 axis)) (R : T (within radius)) (P : T (within3 from)) (W : T (within t)) where
  abbrev spoke : Vec3
  spoke = (radius_vector_c center axis radius from).value

  turned_size : (d : Vec3) → Upto3 621 d → Upto3 1009 (turned_c center axis d t).value
  unfolding turned_c
  turned_size d D =
      let s = sines_or_zeros t in
      let S = due_sines t W in
      plus3 1008 (plus_c center (times_c d s.cos).value).value (times_c (cross_c axis d).value s.sin).value (omega arith)
      (wider3 988 1008 (plus_c center (times_c d s.cos).value).value (omega arith) (plus3 987 center (times_c d s.cos).value (omega arith) (wider3 20 987 center (omega arith) (within_upto3 center C)) (times3 621 366 d s.cos (omega arith) D S.1)))
      (times3 642 366 (cross_c axis d).value s.sin (omega arith) (cross3 20 621 axis d (omega arith) (within_upto3 axis A) D) S.0)

  angle_none : (sincos_c t).refusal ≡ 0
  angle_none = none (nine t) (eight t) (nine_none t (within_finite t W)) (eight_none t W)

  -- the point at the spoke's end, turned
  pub turned_accepted : T (lt zero (off_length center axis from)) → (turned_c center axis spoke t).refusal ≡ 0
  turned_accepted l = notes center axis spoke t ∙ none _ _ angle_none (nines_none 1009 (turned_c center axis spoke t).value (turned_size spoke (spoke_size center axis radius from C A R P l)))

  off_axis : T (lt zero (off_length center axis from)) → (at_c center axis radius from t).refusal ≡ 0
  unfolding at_c
  off_axis l = none _ _ (spoke_found center axis radius from C A R P l) (turned_accepted l)

  on_axis : lt zero (off_length center axis from) ≡ false → (at_c center axis radius from t).refusal ≡ NOT_FINITE
  unfolding at_c first
  on_axis h = ap (λ (r : ℕ). first r (turned_c center axis spoke t).refusal) (spoke_missed center axis radius from C A R P h)

  answered_at : answered (at_c center axis radius from t) ≡ cond (lt zero (off_length center axis from)) (due (at_c center axis radius from t).value) (refused NOT_FINITE)
  unfolding settled
  answered_at = go (lt zero (off_length center axis from)) refl
    where
      go : (b : Bool) → lt zero (off_length center axis from) ≡ b → settled (at_c center axis radius from t).refusal (at_c center axis radius from t).value ≡ cond b (due (at_c center axis radius from t).value) (refused NOT_FINITE)
      go true e = ap (λ (r : ℕ). settled r (at_c center axis radius from t).value) (off_axis (subst T (sym e) tt))
      go false e = ap (λ (r : ℕ). settled r (at_c center axis radius from t).value) (on_axis e)

-- `Arc::at`, for all arguments
pub at_answer : (arc : Arc) (from : Vec3) (t : Float)
    → at_due arc from t ≡ passing (fails OUT_OF_RANGE (angle_within arc.center arc.axis arc.radius from t)) (cond (lt zero (off_length arc.center arc.axis from)) (due (at_c arc.center arc.axis arc.radius from t).value) (refused NOT_FINITE))
unfolding at_due angle_within circle_within fails passing
at_answer arc from t = go (within3 arc.center) (within3 arc.axis) (within arc.radius) (within3 from) (within t) (answered_at arc.center arc.axis arc.radius from t)
  where
    go : (c a r p w : Bool) → (T c → T a → T r → T p → T w → answered (at_c arc.center arc.axis arc.radius from t) ≡ cond (lt zero (off_length arc.center arc.axis from)) (due (at_c arc.center arc.axis arc.radius from t).value) (refused NOT_FINITE))
        → passing (fails OUT_OF_RANGE ((c && (a && r)) && (p && w))) (answered (at_c arc.center arc.axis arc.radius from t)) ≡ passing (fails OUT_OF_RANGE ((c && (a && r)) && (p && w))) (cond (lt zero (off_length arc.center arc.axis from)) (due (at_c arc.center arc.axis arc.radius from t).value) (refused NOT_FINITE))
    go true true true true true h = h tt tt tt tt tt
    go true true true true false h = refl
    go true true true false w h = refl
    go true true false p w h = refl
    go true false r p w h = refl
    go false a r p w h = refl
