-- From f to g by a part t: f + (g - f) * t, each operation rounded once, for every t from 0 to 1, lies between f and g but for 2 ^ -33, where f and g
-- are at most 2 ^ 20 in magnitude (`interpolated`). Of the three roundings that of the difference, which is at most 2 ^ 21, is off by at most 2 ^ -33.
-- The product with t does not pass the difference. The sum goes no farther: what it would have to pass is a number itself, or both are off by half
-- as much. It is shown for any k: of ends up to 2 ^ (53 + k) units the sum goes at most 2 ^ k units beyond; the limit of what is handed in makes k
-- 1041. Assumes nothing.
use Rattle.std.specs.Prelude.{◌≡◌, ◌⊎◌, true, false, ℕ, suc, ◌+◌, ◌-◌, ◌*◌, ◌^◌, ◌≤◌, ◌<◌, T, Float}
use Rattle.std.proofs.Math.Path.{refl}
use Rattle.std.proofs.Common.{sym, ap, subst, inl, inr, mul-le-mul_right, eq-or-lt_of_le, le_of_mul-le-mul_right, mul-pos, arith, pow-add, pow_pos}
use Rattle.std.proofs.Math.Nat.{pow-succ'}
use Rattle.std.proofs.Math.Decide.{dec_le}
use Rattle.std.specs.Float.{nan, inf, fin, binary64}
use Rattle.std.specs.Float.Ieee.{add, sub, mul, neg, le, lt, eq, fits, of_bits}
use Rattle.std.specs.Float.Ieee.Digits.{back}
use Rattle.std.specs.Float.Ieee.Fits.{add-fits, sub-fits, mul-fits, neg-fits}
use Rattle.checked.specs.Checked.{is_finite, within}
use Rattle.checked.specs.Laws.{within_finite}
use Rattle.checked.specs.Numbers.{zero, one}
use Rattle.order.specs.Order.{le_trans_of}
use Rattle.order.specs.Least.{least, greatest}
use Rattle.order.proofs.Extremes.{least_picks, greatest_picks}
use Rattle.float_bounds.specs.Parts.{above, under, den, nought, Rounds}
use Rattle.float_bounds.proofs.Parts.{den_pos, zero_round, le_parts}
use Rattle.float_bounds.specs.Intervals.{In, Upto}
use Rattle.float_bounds.proofs.Intervals.{in_upto, neg_finite, finite_number}
use Rattle.float_bounds.specs.Powers.{pow}
use Rattle.float_bounds.proofs.Powers.{pow_finite, pow_wider, pow_mul, pow_sub, pow_add_of, within_pow}
use Rattle.float_bounds.specs.Units.{F64, scale, Between}
use Rattle.float_bounds.specs.UnitsLaws.{gain, loss}
use Rattle.float_bounds.proofs.UnitsLaws.{scale_pos, neg_units, le_units, upto_units, units_between}
use Rattle.float_bounds.specs.RoundedUnits.{Finite, Near}
use Rattle.float_bounds.proofs.RoundedUnits.{rounds_neg, own_rounds, sum_rounds, product_rounds, rounds_order, units_order, units_near}
use Rattle.float_bounds.proofs.Grids.{multiple, grid_most, tie_most}

-- ---- what rounds a difference that is not below zero is not below zero, since 0 rounds to 0
nought_units : (gain nought ≡ 0) × (loss nought ≡ 0)
unfolding gain loss scale
nought_units = (refl, refl)

nought_finite : Finite nought
unfolding fits is_finite
nought_finite = (tt, tt)

not_below : {v : Float} {p n c : ℕ} → Finite v → 0 < c → Rounds binary64 v p n c → n ≤ p → loss v ≤ gain v
not_below {v} {p} {n} {c} X C R h =
    let Z : Rounds binary64 nought 0 0 1 = record { sign = false; size = 0; is = sym (zero_round binary64 false 1 (omega arith)); parts = refl } in
    omega (arith, nought_units.0, nought_units.1, rounds_order nought_finite X (omega arith) C Z R (omega arith))

-- ---- the steps: d is g - f, q is d t and v is f + q, each rounded; t is τ / δ, and f and g are at most 2 ^ (53 + k) units
record Steps (k : ℕ) (f g d q v : Float) (τ δ : ℕ) : Type 0 where
  room : suc k < 2045
  first : Finite f
  last : Finite g
  step : Finite d
  shift : Finite q
  point : Finite v
  positive : 0 < δ
  part : τ ≤ δ
  step_is : Rounds binary64 d (gain g + loss f) (loss g + gain f) scale
  shift_is : Rounds binary64 q (gain d * τ) (loss d * τ) (scale * δ)
  point_is : Rounds binary64 v (gain f + gain q) (loss f + loss q) scale
  first_size : gain f + loss f ≤ 2 ^ (53 + k)
  last_size : gain g + loss g ≤ 2 ^ (53 + k)

-- ---- where f is at most g, v is at least f, and at most 2 ^ k units above g
-- D times τ / δ is at most D, over S δ and S
shrunk : (D⁺ D⁻ τ δ S : ℕ) → D⁻ ≤ D⁺ → τ ≤ δ → D⁺ * τ * S + D⁻ * (S * δ) ≤ D⁺ * (S * δ) + D⁻ * τ * S
shrunk D⁺ D⁻ τ δ S h t =
    omega (arith, mul-le-mul_right (S * (D⁺ - D⁻)) t, ap (λ (x : ℕ). x * (τ * S)) (back D⁺ D⁻ h), ap (λ (x : ℕ). x * (S * δ)) (back D⁺ D⁻ h))

module _ {k : ℕ} {f g d q v : Float} {τ δ : ℕ} (S : Steps k f g d q v τ δ) (fg : gain f + loss g ≤ gain g + loss f) where
  d_low : loss d ≤ gain d
  d_low = not_below S.step scale_pos S.step_is (omega arith)

  q_low : loss q ≤ gain q
  q_low = not_below S.shift (mul-pos scale_pos S.positive) S.shift_is (mul-le-mul_right τ d_low)

  q_high : gain q + loss d ≤ gain d + loss q
  q_high =
      rounds_order S.shift S.step (mul-pos scale_pos S.positive) scale_pos S.shift_is (own_rounds d S.step)
      (shrunk (gain d) (loss d) τ δ scale d_low S.part)

  from_first : gain f + loss v ≤ gain v + loss f
  from_first = units_order S.first S.point (own_rounds f S.first) S.point_is (omega (arith, q_low))

  -- powers as multiples of smaller ones
  half : 2 ^ (52 + k) ≡ 2 ^ 52 * 2 ^ k
  half = pow-add 2 52 k

  full : 2 ^ (53 + k) ≡ 2 ^ 53 * 2 ^ k
  full = pow-add 2 53 k

  twice : 2 ^ suc k ≡ 2 * 2 ^ k
  twice = pow-succ' 2 k

  double : 2 ^ (53 + suc k) ≡ 2 * 2 ^ (53 + k)
  double = omega (arith, full, twice, pow-add 2 53 (suc k))

  -- d is within 2 ^ k units of g - f, so f + q is at most that much above g
  d_near : Near (2 ^ suc k) d (gain g + loss f) (loss g + gain f)
  d_near = units_near (suc k) S.room S.step_is (omega (arith, double)) (omega (arith, double))

  d_high : gain d + (loss g + gain f) ≤ loss d + (gain g + loss f) + 2 ^ k
  d_high = omega (arith, d_near.high, twice)

  reach : gain f + gain q + loss g ≤ gain g + (loss f + loss q) + 2 ^ k
  reach = omega (arith, d_high, q_high)

  -- g is large, so a multiple of 2 ^ k units: rounding does not pass the next multiple, and where g is the last one, it comes back to g
  at_grid : 2 ^ (52 + k) ≤ gain g + loss g → gain v + loss g ≤ gain g + loss v + 2 ^ k
  at_grid h = let m = multiple k g S.last.0 h in ends m.over m.below m.gains m.loses
    where
      ends : (a b : ℕ) → gain g ≡ a * 2 ^ k → loss g ≡ b * 2 ^ k → gain v + loss g ≤ gain g + loss v + 2 ^ k
      ends a b p n = elim (eq-or-lt_of_le {n = a} {m = b + 2 ^ 53} (le_of_mul-le-mul_right {k = 2 ^ k} (omega (arith, full)) (pow_pos k))) [
        | inl e ↦
            let w = ap (λ (x : ℕ). x * 2 ^ k) e in
            omega (arith, w, tie_most k (omega arith) S.point S.point_is (omega (arith, reach, w)))
        | inr l ↦
            let b_most : b ≤ suc a + 2 ^ 53 = le_of_mul-le-mul_right {k = 2 ^ k} (omega (arith, full)) (pow_pos k) in
            omega (arith, grid_most k (omega arith) (suc a) b l b_most S.point S.point_is (omega (arith, reach)))
      ]

  -- g is small, and g - f is at most 2 ^ (53 + k) units: the roundings of d and v go by half of 2 ^ k units each
  near : gain g + loss g < 2 ^ (52 + k) → gain g + loss f ≤ loss g + gain f + 2 ^ (53 + k) → gain v + loss g ≤ gain g + loss v + 2 ^ k
  near h l =
      let d-by = units_near k (omega arith) S.step_is l (omega arith) in
      let v-by = units_near k (omega arith) S.point_is (omega (arith, reach, half, full)) (omega (arith, q_low)) in
      omega (arith, d-by.high, v-by.high, q_high)

  -- g is small, and g - f is more: f and d are multiples of 2 ^ k units, and rounding does not pass their sum
  far : gain g + loss g < 2 ^ (52 + k) → loss g + gain f + 2 ^ (53 + k) < gain g + loss f → gain v + loss g ≤ gain g + loss v + 2 ^ k
  far h l =
      let m = multiple k f S.first.0 (omega (arith, half, full)) in
      let n = multiple k d S.step.0 (omega (arith, half, full, twice, d_near.low)) in
      sums m.over m.below n.over n.below m.gains m.loses n.gains n.loses
    where
      sums : (a b a' b' : ℕ) → gain f ≡ a * 2 ^ k → loss f ≡ b * 2 ^ k → gain d ≡ a' * 2 ^ k → loss d ≡ b' * 2 ^ k
          → gain v + loss g ≤ gain g + loss v + 2 ^ k
      sums a b a' b' p n p' n' =
          let high : a + a' ≤ b + b' + 2 ^ 53 = le_of_mul-le-mul_right {k = 2 ^ k} (omega (arith, half, full, d_high)) (pow_pos k) in
          let low : b + b' ≤ a + a' + 2 ^ 53 = le_of_mul-le-mul_right {k = 2 ^ k} (omega (arith, full, d_low)) (pow_pos k) in
          omega (arith, d_high, grid_most k (omega arith) (a + a') (b + b') high low S.point S.point_is (omega (arith, q_high)))

  to_last : gain v + loss g ≤ gain g + loss v + 2 ^ k
  to_last = elim (dec_le (2 ^ (52 + k)) (gain g + loss g)) [
    | yes h ↦ at_grid h
    | no h ↦ elim (dec_le (gain g + loss f) (loss g + gain f + 2 ^ (53 + k))) [
      | yes l ↦ near (omega arith) l
      | no l ↦ far (omega arith) (omega arith)
    ]
  ]

-- ---- turned about zero: where g is at most f, v is at most f, and at most 2 ^ k units below g
neg_number : (x : Float) → Finite x → Finite (neg x)
neg_number x X = (neg-fits binary64 x X.0, neg_finite x X.1)

turned : {k : ℕ} {f g d q v : Float} {τ δ : ℕ} → Steps k f g d q v τ δ → Steps k (neg f) (neg g) (neg d) (neg q) (neg v) τ δ
turned {k} {f} {g} {d} {q} {v} S = record {
  room = S.room;
  first = neg_number f S.first;
  last = neg_number g S.last;
  step = neg_number d S.step;
  shift = neg_number q S.shift;
  point = neg_number v S.point;
  positive = S.positive;
  part = S.part;
  step_is = rw ((neg_units g).0, (neg_units f).1, (neg_units g).1, (neg_units f).0) (rounds_neg S.step_is);
  shift_is = rw ((neg_units d).0, (neg_units d).1) (rounds_neg S.shift_is);
  point_is = rw ((neg_units f).0, (neg_units q).0, (neg_units f).1, (neg_units q).1) (rounds_neg S.point_is);
  first_size = rw ((neg_units f).0, (neg_units f).1) (omega (arith, S.first_size));
  last_size = rw ((neg_units g).0, (neg_units g).1) (omega (arith, S.last_size));
}

module _ {k : ℕ} {f g d q v : Float} {τ δ : ℕ} (S : Steps k f g d q v τ δ) (gf : gain g + loss f ≤ gain f + loss g) where
  turned_order : gain (neg f) + loss (neg g) ≤ gain (neg g) + loss (neg f)
  turned_order = rw ((neg_units f).0, (neg_units g).1, (neg_units g).0, (neg_units f).1) (omega arith)

  down_from_first : loss f + gain v ≤ loss v + gain f
  down_from_first = rw ((neg_units f).0, (neg_units v).1, (neg_units v).0, (neg_units f).1) at (from_first (turned S) turned_order)

  down_to_last : loss v + gain g ≤ loss g + gain v + 2 ^ k
  down_to_last = rw ((neg_units v).0, (neg_units g).1, (neg_units g).0, (neg_units v).1) at (to_last (turned S) turned_order)

-- ---- between any two numbers between which f and g lie
at_most : (x y : Float) → Finite x → Finite y → T (le x y) → gain x + loss y ≤ gain y + loss x
at_most x y X Y h = le_units x y X.0 Y.0 X.1 Y.1 h

between : {k : ℕ} {f g d q v : Float} {τ δ : ℕ} → Steps k f g d q v τ δ → (lo hi : Float) → Finite lo → Finite hi
    → T (le lo f) → T (le lo g) → T (le f hi) → T (le g hi) → (w : ℕ) → 2 ^ k ≤ w → Between w lo v hi
between {k} {f} {g} {d} {q} {v} S lo hi L H lf lg fh gh w W = elim (dec_le (gain f + loss g) (gain g + loss f)) [
  | yes fg ↦
      units_between w lo v hi (omega (arith, at_most lo f L S.first lf, from_first S fg))
      (omega (arith, at_most g hi S.last H gh, to_last S fg))
  | no h ↦
      let gf : gain g + loss f ≤ gain f + loss g = omega arith in
      units_between w lo v hi (omega (arith, at_most lo g L S.last lg, down_to_last S gf))
      (omega (arith, at_most f hi S.first H fh, down_from_first S gf))
]

-- ---- a number from 0 to 1 is a fraction that is neither below zero nor above 1
one_sided : (x : Float) → under x ≤ above x → under x ≡ 0
one_sided nan h = refl
one_sided (inf s) h = refl
one_sided (fin true m e) h = omega arith
one_sided (fin false m e) h = refl

module _ (t : Float) (P : In zero one t) where
  part_upto : Upto (pow 0) t
  unfolding neg le lt eq of_bits
  part_upto = in_upto (pow 0) t (le_trans_of (neg (pow 0)) zero t tt P.0, P.1)

  part_finite : T (is_finite t)
  part_finite = pow_finite 0 t part_upto

  part_under : under t ≡ 0
  unfolding of_bits is_finite
  part_under = one_sided t (omega (arith, le_parts zero t tt part_finite P.0))

  part_above : above t ≤ den t
  unfolding of_bits is_finite
  part_above = omega (arith, part_under, le_parts t one part_finite tt P.1)

-- ---- f + (g - f) * t
module _ (f g t : Float) (Wf : T (within f)) (Wg : T (within g)) (P : In zero one t) where
  abbrev d : Float
  d = sub binary64 g f

  abbrev q : Float
  q = mul binary64 d t

  abbrev v : Float
  v = add binary64 f q

  d_upto : Upto (pow 21) d
  d_upto = pow_sub 20 g f (omega arith) (within_pow g Wg) (within_pow f Wf)

  q_upto : Upto (pow 21) q
  q_upto = pow_mul 21 0 d t (omega arith) d_upto (part_upto t P)

  -- no refusal is met
  pub step_finite : T (is_finite d)
  step_finite = pow_finite 21 d d_upto

  pub point_finite : T (is_finite v)
  point_finite = pow_finite 22 v (pow_add_of 21 f q (omega arith) (pow_wider 20 21 f (omega arith) (within_pow f Wf)) q_upto)

  module _ (Ff : F64 f) (Fg : F64 g) where
    f_finite : Finite f
    f_finite = (Ff, within_finite f Wf)

    g_finite : Finite g
    g_finite = (Fg, within_finite g Wg)

    d_finite : Finite d
    d_finite = (sub-fits binary64 g f, step_finite)

    q_finite : Finite q
    q_finite = (mul-fits binary64 d t, pow_finite 21 q q_upto)

    v_finite : Finite v
    v_finite = (add-fits binary64 f q, point_finite)

    -- 2 ^ 20 in units
    limit_units : 2 ^ 20 * scale ≡ 2 ^ (53 + 1041)
    unfolding scale
    limit_units = refl

    steps : Steps 1041 f g d q v (above t) (den t)
    steps = record {
      room = omega arith;
      first = f_finite;
      last = g_finite;
      step = d_finite;
      shift = q_finite;
      point = v_finite;
      positive = den_pos t;
      part = part_above t P;
      step_is = unfold sub in rw ((neg_units f).0, (neg_units f).1) at (sum_rounds g (neg f) g_finite (neg_number f f_finite));
      shift_is = product_rounds d t d_finite (part_finite t P) (part_under t P);
      point_is = sum_rounds f q f_finite q_finite;
      first_size = rw limit_units at (upto_units 20 f Ff (within_pow f Wf));
      last_size = rw limit_units at (upto_units 20 g Fg (within_pow g Wg));
    }

    picked : {r : Float} → (r ≡ f) ⊎ (r ≡ g) → Finite r
    picked (inl e) = subst Finite (sym e) f_finite
    picked (inr e) = subst Finite (sym e) g_finite

    -- 2 ^ 1041 units are 2 ^ -33
    pub interpolated : (w : ℕ) → 2 ^ 1041 ≤ w → Between w (least f g) (add binary64 f (mul binary64 (sub binary64 g f) t)) (greatest f g)
    interpolated =
        let F = finite_number f (within_finite f Wf) in
        let G = finite_number g (within_finite g Wg) in
        let l = least_picks f g F G in
        let h = greatest_picks f g F G in
        between steps (least f g) (greatest f g) (picked l.which) (picked h.which) l.one.0 l.two.0 h.one.0 h.two.0
