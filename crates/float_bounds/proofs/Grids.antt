-- Multiples of 2 ^ k units. A number of 2 ^ (52 + k) units or more is one (`multiple`). Each multiple up to 2 ^ 53 times 2 ^ k units is a number,
-- which rounding therefore does not pass (`grid_most`). Beyond that numbers lie twice as far apart: 2 ^ k units more are rounded back (`tie_most`).
-- Assumes nothing.
use Rattle.std.specs.Prelude.{◌≡◌, refl, Bool, ℕ, suc, ◌+◌, ◌-◌, ◌*◌, ◌^◌, ◌≤◌, ◌<◌, T, Float}
use Rattle.std.proofs.Math.Path.{sym, subst}
use Rattle.std.proofs.Common.{ap, ◌∙◌, le_of_eq, le_of_suc-le-suc, lt_of_le_of_lt, lt_of_not-le, not-le_of_lt, mul_assoc, zero-mul, mul-le-mul_right, lit≤, lit<, pow-add, pow_pos, pow_mono, shl_lt}
use Rattle.std.proofs.Math.Bool.{true, false}
use Rattle.std.proofs.Math.Decide.{dec_le}
use native.Mathlib.Omega.{arith}
use Rattle.std.proofs.Math.Pow.{pow-lt}
use Rattle.std.specs.Float.{nan, inf, fin}
use Rattle.std.specs.Float.Ieee.{binary64, size, odd, round}
use Rattle.std.specs.Float.Ieee.Digits.{back}
use Rattle.std.specs.Float.Ieee.Fits.{odd-fits, round-fits}
use Rattle.std.specs.Float.Ieee.Exact.{HasValue, odd_sign}
use Rattle.std.specs.Float.Ieee.Scale.{grid, grid_scale, round_val, normal_of_fraction}
use Rattle.checked.specs.Checked.{is_finite}
use Rattle.rounding.specs.Values.{fits_small}
use Rattle.float_bounds.specs.Parts.{plus, minus, Rounds}
use Rattle.float_bounds.proofs.Own.{exponent}
use Rattle.float_bounds.specs.Units.{F64, scale}
use Rattle.float_bounds.specs.UnitsLaws.{gain, loss}
use Rattle.float_bounds.proofs.UnitsLaws.{units_are}
use Rattle.float_bounds.specs.RoundedUnits.{Finite}
use Rattle.float_bounds.proofs.RoundedUnits.{own_rounds, units_order}
use Rattle.float_bounds.specs.Grids.{Multiple}

-- m has 53 digits at most, so j is no less than k
lower : (k m j : ℕ) → m < 2 ^ 53 → 2 ^ (52 + k) ≤ m * 2 ^ j → m * 2 ^ j ≡ m * 2 ^ (j - k) * 2 ^ k
lower k m j M h =
    let K : k ≤ j = le_of_suc-le-suc (lt_of_not-le (λ (g : suc j ≤ k). not-le_of_lt (lt_of_le_of_lt h (shl_lt 53 j M)) (pow_mono (less g)))) in
    ap (λ (x : ℕ). m * 2 ^ x) (sym (back j k K)) ∙ ap (λ (x : ℕ). m * x) (pow-add 2 (j - k) k) ∙ sym (mul_assoc m (2 ^ (j - k)) (2 ^ k))
  where
    less : suc j ≤ k → 53 + j ≤ 52 + k
    less g = omega arith

pub multiple : (k : ℕ) (x : Float) → F64 x → 2 ^ (52 + k) ≤ gain x + loss x → Multiple k x
unfolding scale
multiple k nan F h = unfold gain loss in record { over = 0; below = 0; gains = sym (zero-mul (2 ^ k)); loses = sym (zero-mul (2 ^ k)) }
multiple k (inf s) F h = unfold gain loss in record { over = 0; below = 0; gains = sym (zero-mul (2 ^ k)); loses = sym (zero-mul (2 ^ k)) }
multiple k (fin s m e) F h =
    let E = exponent binary64 s m e F in
    let u = units_are (fin s m e) s (m * 2 ^ E.0) (refl, E.1) in
    signs s (m * 2 ^ E.0) (m * 2 ^ (E.0 - k)) h u.0 u.1 (lower k m E.0 (fits_small binary64 s m e F))
  where
    signs : {x : Float} (s : Bool) (n r : ℕ) → 2 ^ (52 + k) ≤ gain x + loss x → gain x ≡ plus s n → loss x ≡ minus s n
        → (2 ^ (52 + k) ≤ n → n ≡ r * 2 ^ k) → Multiple k x
    signs true n r h p q i = record { over = 0; below = r; gains = p ∙ sym (zero-mul (2 ^ k)); loses = q ∙ i (omega arith) }
    signs false n r h p q i = record { over = r; below = 0; gains = p ∙ i (omega arith); loses = q ∙ sym (zero-mul (2 ^ k)) }

-- ---- A - B times 2 ^ k units, up to 2 ^ 53 times as many
record OnGrid (k A B : ℕ) : Type 0 where
  number : Float
  finite : Finite number
  parts : gain number + B * 2 ^ k ≡ loss number + A * 2 ^ k

value_finite : (x : Float) (s : Bool) (a c : ℕ) → HasValue x s a c → T (is_finite x)
unfolding is_finite
value_finite nan s a c v = v
value_finite (inf t) s a c v = v
value_finite (fin t m e) s a c v = tt

module _ (k : ℕ) (K : k < 2045) where
  -- no infinity
  under_top : (q : ℕ) → q ≤ 2 ^ 53 → q * 2 ^ k < 2 ^ 2098
  under_top q Q = lt_of_le_of_lt (rw (pow-add 2 53 k) (mul-le-mul_right (2 ^ k) Q)) (pow-lt {i = 53 + k} {j = 2098} (omega arith))

  signed : (s : Bool) (q : ℕ) → q ≤ 2 ^ 53 → OnGrid k (plus s q) (minus s q)
  unfolding scale
  signed s q Q =
      let z = odd 54 s q k 1074 in
      let v : HasValue z s (q * 2 ^ k) scale = odd_sign 54 s q k 1074 in
      let u = units_are z s (q * 2 ^ k) v in
      record {
        number = z;
        finite = (odd-fits binary64 54 s q k (lt_of_le_of_lt Q (lit< tt)) Q (under_top q Q), value_finite z s (q * 2 ^ k) scale v);
        parts = balance s q (2 ^ k) (gain z) (loss z) u.0 u.1;
      }
    where
      balance : (s : Bool) (q W g l : ℕ) → g ≡ plus s (q * W) → l ≡ minus s (q * W) → g + minus s q * W ≡ l + plus s q * W
      balance true q W g l p n = omega arith
      balance false q W g l p n = omega arith

  on_grid : (A B : ℕ) → A ≤ B + 2 ^ 53 → B ≤ A + 2 ^ 53 → OnGrid k A B
  on_grid A B h l = elim (dec_le A B) [
    | yes p ↦ moved 0 (B - A) (omega arith) (signed true (B - A) (omega arith))
    | no p ↦ moved (A - B) 0 (omega arith) (signed false (A - B) (omega arith))
  ]
    where
      moved : (a b : ℕ) → A + b ≡ B + a → OnGrid k a b → OnGrid k A B
      moved a b e z =
          let x = z.number in
          record { number = x; finite = z.finite; parts = shift (gain x) (loss x) A B a b (2 ^ k) e z.parts }
        where
          shift : (g l A B a b W : ℕ) → A + b ≡ B + a → g + b * W ≡ l + a * W → g + B * W ≡ l + A * W
          shift g l A B a b W e h = omega (arith, ap (λ (x : ℕ). x * W) e)

  pub grid_most : {v : Float} {p n : ℕ} (A B : ℕ) → A ≤ B + 2 ^ 53 → B ≤ A + 2 ^ 53 → Finite v → Rounds binary64 v p n scale
      → p + B * 2 ^ k ≤ A * 2 ^ k + n → gain v + B * 2 ^ k ≤ A * 2 ^ k + loss v
  grid_most A B h l X R m =
      let z = on_grid A B h l in
      let e = z.parts in
      omega (arith, units_order X z.finite R (own_rounds z.number z.finite) (omega arith))

  -- ---- (2 ^ 53 + 1) * 2 ^ k units lie in the middle of two numbers, of which 2 ^ 53 * 2 ^ k is the even one
  tie : HasValue (round binary64 false ((2 ^ 53 + 1) * 2 ^ k) scale) false (2 ^ 53 * 2 ^ k) scale
  unfolding scale size
  tie =
      subst (λ (n : ℕ). HasValue (round binary64 false ((2 ^ 53 + 1) * 2 ^ k) (2 ^ 1074)) false n (2 ^ 1074)) even
      (round_val binary64 ((2 ^ 53 + 1) * 2 ^ k) (2 ^ 1074) (subst (λ (n : ℕ). n < 2 ^ 2098) (sym even) (under_top (2 ^ 53) (le_of_eq refl))))
    where
      even : grid binary64 ((2 ^ 53 + 1) * 2 ^ k) (2 ^ 1074) ≡ 2 ^ 53 * 2 ^ k
      even =
          grid_scale binary64 (2 ^ 53 + 1) (2 ^ 1074) k (pow_pos 1074)
          (normal_of_fraction binary64 (2 ^ 53 + 1) (2 ^ 1074) (pow_pos 1074) (lit≤ tt))

  pub tie_most : {v : Float} {p n : ℕ} → Finite v → Rounds binary64 v p n scale → p ≤ n + (2 ^ 53 + 1) * 2 ^ k → gain v ≤ loss v + 2 ^ 53 * 2 ^ k
  tie_most X R h =
      let a = (2 ^ 53 + 1) * 2 ^ k in
      let z = round binary64 false a scale in
      let Z : Finite z = (round-fits binary64 false a scale, value_finite z false (2 ^ 53 * 2 ^ k) scale tie) in
      let S : Rounds binary64 z a 0 scale = record { sign = false; size = a; is = refl; parts = omega arith } in
      let u = units_are z false (2 ^ 53 * 2 ^ k) tie in
      omega (arith, u.0, u.1, units_order X Z R S (omega arith))
