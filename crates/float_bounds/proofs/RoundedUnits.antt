-- What rounds a difference, in units. f64 numbers, their sums and their products round differences of units (`own_rounds`, `sum_rounds`,
-- `product_rounds`); rounding keeps the order (`units_order`), and goes by half of 2 ^ k units at most (`units_near`). Assumes nothing.
use Rattle.std.specs.Prelude.{◌≡◌, Bool, true, false, ℕ, ◌+◌, ◌-◌, ◌*◌, ◌^◌, ◌≤◌, ◌<◌, T, Float}
use Rattle.std.proofs.Math.Path.{sym}
use Rattle.std.proofs.Common.{ap, ◌∙◌, subst, mul-pos, mul-le-mul_right, le_of_mul-le-mul_right}
use native.Mathlib.Omega.{arith}
use Rattle.std.specs.Float.{nan, inf, fin}
use Rattle.std.specs.Float.Ieee.{binary64, up, round, neg, add, mul}
use Rattle.std.specs.Float.Ieee.Digits.{back}
use Rattle.std.specs.Float.Ieee.Exact.{HasValue}
use Rattle.std.specs.Float.Ieee.Scale.{round_same}
use Rattle.checked.specs.Checked.{is_finite}
use Rattle.rounding.specs.Values.{neg_round}
use Rattle.float_bounds.specs.Parts.{plus, minus, above, under, den, Rounds}
use Rattle.float_bounds.proofs.Parts.{den_pos, neg_twice, rounds_le, add_rounds, mul_rounds}
use Rattle.float_bounds.proofs.Own.{own_round}
use Rattle.float_bounds.specs.Units.{scale}
use Rattle.float_bounds.specs.UnitsLaws.{gain, loss}
use Rattle.float_bounds.proofs.UnitsLaws.{scale_pos, whole, units_are, le_units}
use Rattle.float_bounds.specs.RoundingErrors.{Apart, round_near}
use Rattle.float_bounds.specs.RoundedUnits.{Finite, Near}

-- ---- the same difference over another denominator, and turned about zero
-- a is p - n over c, which is P - N over d
ordered : (a p n c P N d : ℕ) → 0 < c → a + n ≡ 0 + p → P * c ≡ p * d → N * c ≡ n * d → N ≤ P
ordered a p n c P N d C e eP eN = le_of_mul-le-mul_right {k = c} (omega (arith, ap (λ (x : ℕ). x * d) e)) C

same_size : (a p n c P N d r : ℕ) → a + n ≡ 0 + p → P * c ≡ p * d → N * c ≡ n * d → r + N ≡ P → a * d ≡ r * c
same_size a p n c P N d r e eP eN q = omega (arith, ap (λ (x : ℕ). x * d) e, ap (λ (x : ℕ). x * c) q)

rounds_same : {v : Float} {p n c P N d : ℕ} → 0 < c → 0 < d → Rounds binary64 v p n c → P * c ≡ p * d → N * c ≡ n * d → Rounds binary64 v P N d
rounds_same {v} {p} {n} {c} {P} {N} {d} C D R eP eN = signs R.sign R.size R.is R.parts
  where
    signs : (s : Bool) (a : ℕ) → v ≡ round binary64 s a c → plus s a + n ≡ minus s a + p → Rounds binary64 v P N d
    signs false a i e =
        let r = P - N in
        let q : r + N ≡ P = back P N (ordered a p n c P N d C e eP eN) in
        let h = same_size a p n c P N d r e eP eN q in
        record { sign = false; size = r; is = i ∙ round_same binary64 false a c r d C D h; parts = omega arith }
    signs true a i e =
        let r = N - P in
        let q : r + P ≡ N = back N P (ordered a n p c N P d C (sym e) eN eP) in
        let h = same_size a n p c N P d r (sym e) eN eP q in
        record { sign = true; size = r; is = i ∙ round_same binary64 true a c r d C D h; parts = omega arith }

pub rounds_neg : {v : Float} {p n c : ℕ} → Rounds binary64 v p n c → Rounds binary64 (neg v) n p c
rounds_neg {v} {p} {n} {c} R = signs R.sign R.size R.is R.parts
  where
    signs : (s : Bool) (a : ℕ) → v ≡ round binary64 s a c → plus s a + n ≡ minus s a + p → Rounds binary64 (neg v) n p c
    signs false a i e = record { sign = true; size = a; is = ap neg i ∙ neg_round binary64 a c; parts = sym e }
    signs true a i e =
        record { sign = false; size = a; is = ap neg (i ∙ sym (neg_round binary64 a c)) ∙ neg_twice (round binary64 false a c); parts = sym e }

-- ---- numbers, sums and products
pub own_rounds : (x : Float) → Finite x → Rounds binary64 x (gain x) (loss x) scale
own_rounds x X = rounds_same (den_pos x) scale_pos (own x X) (whole x X.0).over (whole x X.0).below
  where
    own : (x : Float) → Finite x → Rounds binary64 x (above x) (under x) (den x)
    own nan X = absurd (unfold is_finite in X.1)
    own (inf s) X = absurd (unfold is_finite in X.1)
    own (fin s m e) X = record { sign = s; size = m * up e; is = sym (own_round binary64 s m e X.0); parts = omega arith }

pub sum_rounds : (x y : Float) → Finite x → Finite y → Rounds binary64 (add binary64 x y) (gain x + gain y) (loss x + loss y) scale
sum_rounds x y X Y =
    rounds_same (mul-pos (den_pos x) (den_pos y)) scale_pos (add_rounds binary64 x y X.1 Y.1)
    (joined (gain x) (den x) (above x) (gain y) (den y) (above y) scale (whole x X.0).over (whole y Y.0).over)
    (joined (loss x) (den x) (under x) (loss y) (den y) (under y) scale (whole x X.0).below (whole y Y.0).below)
  where
    joined : (g c a h d b S : ℕ) → g * c ≡ a * S → h * d ≡ b * S → (g + h) * (c * d) ≡ (a * d + b * c) * S
    joined g c a h d b S p q = omega (arith, ap (λ (z : ℕ). z * d) p, ap (λ (z : ℕ). z * c) q)

-- the product with a number that is not below zero
pub product_rounds : (x t : Float) → Finite x → T (is_finite t) → under t ≡ 0
    → Rounds binary64 (mul binary64 x t) (gain x * above t) (loss x * above t) (scale * den t)
product_rounds x t X F z =
    rounds_same (mul-pos (den_pos x) (den_pos t)) (mul-pos scale_pos (den_pos t)) (rw z at (mul_rounds binary64 x t X.1 F))
    (over (gain x) (den x) (above x) (under x) (above t) (den t) scale (whole x X.0).over)
    (below (loss x) (den x) (above x) (under x) (above t) (den t) scale (whole x X.0).below)
  where
    over : (g c a b τ δ S : ℕ) → g * c ≡ a * S → g * τ * (c * δ) ≡ (a * τ + b * 0) * (S * δ)
    over g c a b τ δ S p = omega (arith, ap (λ (z : ℕ). z * (τ * δ)) p)

    below : (l c a b τ δ S : ℕ) → l * c ≡ b * S → l * τ * (c * δ) ≡ (a * 0 + b * τ) * (S * δ)
    below l c a b τ δ S p = omega (arith, ap (λ (z : ℕ). z * (τ * δ)) p)

-- ---- of two differences the larger rounds to a number that is no smaller
pub rounds_order : {v : Float} {p n c : ℕ} {w : Float} {q m d : ℕ} → Finite v → Finite w → 0 < c → 0 < d
    → Rounds binary64 v p n c → Rounds binary64 w q m d → p * d + m * c ≤ q * c + n * d → gain v + loss w ≤ gain w + loss v
rounds_order {v} {p} {n} {c} {w} {q} {m} {d} X Y C D R S h = le_units v w X.0 Y.0 X.1 Y.1 (rounds_le binary64 v p n c w q m d R S C D h)

times : (p m q n S : ℕ) → p + m ≤ q + n → p * S + m * S ≤ q * S + n * S
times p m q n S h = omega (arith, mul-le-mul_right S h)

pub units_order : {v : Float} {p n : ℕ} {w : Float} {q m : ℕ} → Finite v → Finite w
    → Rounds binary64 v p n scale → Rounds binary64 w q m scale → p + m ≤ q + n → gain v + loss w ≤ gain w + loss v
units_order {v} {p} {n} {w} {q} {m} X Y R S h = rounds_order X Y scale_pos scale_pos R S (times p m q n scale h)

-- within half of 2 ^ k units where the difference is at most 2 ^ (53 + k) of them
pub units_near : (k : ℕ) {v : Float} {p n : ℕ} → k < 2045 → Rounds binary64 v p n scale → p ≤ n + 2 ^ (53 + k) → n ≤ p + 2 ^ (53 + k) → Near (2 ^ k) v p n
unfolding scale
units_near k {v} {p} {n} K R hp hn = signs R.sign R.size R.is R.parts
  where
    -- of a units, without their sign
    sized : (s : Bool) (a : ℕ) → v ≡ round binary64 s a scale → a ≤ 2 ^ (53 + k) → (g : ℕ) × (gain v ≡ plus s g) × (loss v ≡ minus s g) × Apart g a (2 ^ k)
    sized s a i h =
        let r = round_near binary64 s a scale k scale_pos (omega arith) (mul-le-mul_right scale h) in
        let u = units_are v s r.has (subst (λ (x : Float). HasValue x s r.has scale) (sym i) r.value) in
        (r.has, u.0, u.1, freed r.has a (2 ^ k) scale scale_pos r.near)
      where
        freed : (g a E S : ℕ) → 0 < S → Apart (g * S) (a * S) (E * S) → Apart g a E
        freed g a E S P h = (le_of_mul-le-mul_right {k = S} (omega (arith, h.0)) P, le_of_mul-le-mul_right {k = S} (omega (arith, h.1)) P)

    signs : (s : Bool) (a : ℕ) → v ≡ round binary64 s a scale → plus s a + n ≡ minus s a + p → Near (2 ^ k) v p n
    signs false a i e = let g = sized false a i (omega arith) in record { high = omega (arith, g.1, g.2, g.3.0, g.3.1); low = omega (arith, g.1, g.2, g.3.0, g.3.1) }
    signs true a i e = let g = sized true a i (omega arith) in record { high = omega (arith, g.1, g.2, g.3.0, g.3.1); low = omega (arith, g.1, g.2, g.3.0, g.3.1) }
