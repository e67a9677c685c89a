-- A value of the format is what its own fraction rounds to: a product with 1 is the number, and one
-- with a number of magnitude at most 1 is no larger. A number less itself is +0, so a difference
-- has the sign of the comparison. Assumes nothing.
use Rattle.std.specs.Prelude.{◌≡◌, refl, Bool, true, false, not, cond, ℕ, suc, ◌+◌, ◌-◌, ◌*◌, ◌≤◌, ◌<◌, ◌^◌, ℤ, pos, negsuc, T, ltb, eqb, Float}
use Rattle.std.proofs.Common.{sym, ap, ◌∙◌, subst, le_of_eq, lt_of_lt_of_le, lt_of_not-le, not-le_of_lt, mul_comm, mul_assoc, mul-pos, mul-one, zero-mul, zero-lt-suc, le_of_suc-le-suc, arith, ltb→lt, lt→ltb, pow-add, pow_pos, pow_mono, shl_lt, le-ltb}
use Rattle.std.proofs.Math.Pow.{pow-lt}
use Rattle.std.specs.Float.{nan, inf, fin, Format, binary64}
use Rattle.std.specs.Float.Ieee.{prec, emax, low, up, down, round, sum, neg, add, sub, mul, div, le, lt, eq, unlike, fits}
use Rattle.std.specs.Float.Ieee.Fits.{down_pos, round-fits, reach}
use Rattle.std.specs.Float.Ieee.Digits.{back}
use Rattle.std.specs.Float.Ieee.Bits.{cond_no}
use Rattle.std.specs.Float.Ieee.Exact.{round_exact}
use Rattle.std.specs.Float.Ieee.Scale.{round_same}
use Rattle.checked.specs.Checked.{is_finite}
use Rattle.order.specs.Order.{le_refl_of}
use Rattle.rounding.specs.Values.{fits_small, fits_low, whole_is}
use Rattle.rounding.specs.Patterns.{value_unique}
use Rattle.float_bits.specs.FloatBits.{fabs}
use Rattle.float_bits.specs.Laws.{fabs_fits}
use Rattle.float_bounds.specs.Parts.{plus, minus, above, under, nought}
use Rattle.float_bounds.proofs.Parts.{zero_round, positive_round, le_parts, add_le}
use Rattle.float_bounds.specs.Intervals.{Upto, plain}
use Rattle.float_bounds.proofs.Intervals.{upto_mul, upto_div, neg_finite, finite_number, not_none}
use Rattle.float_bounds.specs.Own.{unit}

-- ---- a value's own fraction

small_power : (k l : ℕ) → 2 ^ k ≤ 2 ^ l → k ≤ l
small_power k l h = le_of_suc-le-suc (lt_of_not-le (λ (g : suc l ≤ k). not-le_of_lt (pow-lt g) h))

-- m * 2 ^ e is m * 2 ^ j of the format's smallest values, for some j
pub exponent : (f : Format) (s : Bool) (m : ℕ) (e : ℤ) → T (fits f (fin s m e)) → (j : ℕ) × (m * up e * 2 ^ low f ≡ m * 2 ^ j * down e)
exponent f s m (pos a) F =
    let j = a + low f in
    (j, mul_assoc m (2 ^ a) (2 ^ low f) ∙ ap (λ (x : ℕ). m * x) (sym (pow-add 2 a (low f))) ∙ sym (mul-one (m * 2 ^ j)))
exponent f s m (negsuc k) F =
    let j = low f - suc k in
    let L : suc k ≤ low f = small_power (suc k) (low f) (fits_low f s m (negsuc k) F) in
    let split : 2 ^ low f ≡ 2 ^ j * 2 ^ suc k = ap (λ (x : ℕ). 2 ^ x) (sym (back (low f) (suc k) L)) ∙ pow-add 2 j (suc k) in
    (j, (λ i. mul-one m i * split i) ∙ sym (mul_assoc m (2 ^ j) (2 ^ suc k)))

pub own_round : (f : Format) (s : Bool) (m : ℕ) (e : ℤ) → T (fits f (fin s m e)) → round f s (m * up e) (down e) ≡ fin s m e
unfolding exponent
own_round f s m (pos a) F = whole_is f s m a F
own_round f s m (negsuc k) F =
    let l = low f in
    let E = exponent f s m (negsuc k) F in
    let fine : m * 2 ^ E.0 < 2 ^ (l + suc (emax f)) = lt_of_lt_of_le (shl_lt (prec f) E.0 (fits_small f s m (negsuc k) F)) (pow_mono (room (prec f) (suc (emax f)) l (suc k) (reach f))) in
    value_unique f (round f s (m * 1) (2 ^ suc k)) (fin s m (negsuc k)) s (m * 1) (2 ^ suc k) (pow_pos (suc k)) (round-fits f s (m * 1) (2 ^ suc k)) F
    (round_exact f s (m * 1) (2 ^ suc k) m E.0 (pow_pos (suc k)) (fits_small f s m (negsuc k) F) fine E.1)
    (refl, refl)
  where
    room : (p e l k : ℕ) → p ≤ e → p + (l - k) ≤ l + e
    room p e l k h = omega arith

pub mul_unit : (f : Format) (x : Float) → T (is_finite x) → T (fits f x) → mul f x unit ≡ x
unfolding mul is_finite
mul_unit f nan X F = absurd X
mul_unit f (inf s) X F = absurd X
mul_unit f (fin s m e) X F = λ i. own s (m * up e) (down e) (own_round f s m e F) i
  where
    own : (s : Bool) (a c : ℕ) {x : Float} → round f s a c ≡ x → round f (unlike s false) (a * (1 * 1)) (c * 1) ≡ x
    own true a c h = (λ i. round f true (mul-one a i) (mul-one c i)) ∙ h
    own false a c h = (λ i. round f false (mul-one a i) (mul-one c i)) ∙ h

fabs_plain : (x : Float) → T (is_finite x) → T (plain (fabs x)) × T (is_finite (fabs x))
unfolding fabs is_finite
fabs_plain nan X = absurd X
fabs_plain (inf s) X = absurd X
fabs_plain (fin s m e) X = (tt, tt)

-- a factor of magnitude at most 1
pub shrunk : (x q : Float) → T (is_finite x) → T (fits binary64 x) → Upto unit q → Upto (fabs x) (mul binary64 x q)
shrunk x q X F h =
    subst (λ (v : Float). Upto v (mul binary64 x q)) (mul_unit binary64 (fabs x) (fabs_plain x X).1 (fabs_fits x F))
    (upto_mul binary64 (fabs x) unit (fabs_plain x X).0 tt x q (own_upto x X) h)
  where
    own_upto : (x : Float) → T (is_finite x) → T (le (fabs x) (fabs x))
    own_upto x X = le_refl_of (fabs x) (finite_number (fabs x) (fabs_plain x X).1)

-- ---- a number less itself

no_less : (a : ℕ) → ltb a a ≡ false
no_less a = le-ltb a a (le_of_eq refl)

nothing : (a : ℕ) → a - a ≡ 0
nothing a = omega arith

sum_self : (f : Format) (s : Bool) (a c : ℕ) → 0 < c → sum f s a (not s) a c ≡ nought
unfolding sum
sum_self f true a c C = (λ i. cond (no_less a i) (round f false (nothing a i) c) (round f (no_less a i) (nothing a i) c)) ∙ zero_round f false c C
sum_self f false a c C = (λ i. cond (no_less a i) (round f true (nothing a i) c) (round f false (nothing a i) c)) ∙ zero_round f false c C

pub sub_self : (f : Format) (x : Float) → T (is_finite x) → sub f x x ≡ nought
unfolding sub add sum neg is_finite
sub_self f nan X = absurd X
sub_self f (inf s) X = absurd X
sub_self f (fin s m e) X = sum_self f s (m * up e * down e) (down e * down e) (mul-pos (down_pos e) (down_pos e))

-- a number less one that is no larger
pub sub_above : (f : Format) (x y : Float) → T (is_finite x) → T (is_finite y) → T (le y x) → T (le nought (sub f x y))
sub_above f x y X Y h =
    subst (λ (v : Float). T (le v (sub f x y))) (sub_self f y Y)
    (unfold sub in add_le f y x (neg y) (neg y) Y X (neg_finite y Y) (neg_finite y Y) h (le_refl_of (neg y) (finite_number (neg y) (neg_finite y Y))))

pub mul_comm_of : (f : Format) (x y : Float) → T (is_finite x) → T (is_finite y) → mul f x y ≡ mul f y x
unfolding mul is_finite
mul_comm_of f nan y X Y = absurd X
mul_comm_of f (inf s) y X Y = absurd X
mul_comm_of f (fin s m e) nan X Y = absurd Y
mul_comm_of f (fin s m e) (inf t) X Y = absurd Y
mul_comm_of f (fin s m e) (fin t n d) X Y = λ i. round f (swap s t i) (mul_comm (m * up e) (n * up d) i) (mul_comm (down e) (down d) i)
  where
    swap : (s t : Bool) → unlike s t ≡ unlike t s
    swap true true = refl
    swap true false = refl
    swap false true = refl
    swap false false = refl

-- ---- quotients: of a number by itself, and of two numbers not below zero

like : (s : Bool) → unlike s s ≡ false
like true = refl
like false = refl

one_whole : round binary64 false 1 1 ≡ unit
unfolding round
one_whole = refl

parts_pos : (s : Bool) (a : ℕ) → 0 < plus s a + minus s a → 0 < a
parts_pos true a h = omega arith
parts_pos false a h = omega arith

pub div_self : (x : Float) → T (is_finite x) → 0 < above x + under x → div binary64 x x ≡ unit
unfolding div is_finite
div_self nan X h = absurd X
div_self (inf s) X h = absurd X
div_self (fin s m e) X h =
    let a = m * up e * down e in
    cond_no (eqb m 0) (cond (eqb m 0) nan (inf (unlike s s))) (round binary64 (unlike s s) a a) (not_none s m (up e) h)
    ∙ ap (λ (b : Bool). round binary64 b a a) (like s)
    ∙ round_same binary64 false a a 1 1 (mul-pos (parts_pos s (m * up e) h) (down_pos e)) (zero-lt-suc 0) (mul_comm a 1)
    ∙ one_whole

fabs_above : (y : Float) → 0 < above y + under y → 0 < above (fabs y)
unfolding fabs
fabs_above nan h = omega arith
fabs_above (inf s) h = omega arith
fabs_above (fin true m e) h = omega arith
fabs_above (fin false m e) h = omega arith

-- at most 1 where the divisor is no smaller
pub div_most : (x y : Float) → T (is_finite y) → 0 < above y + under y → T (le (fabs x) (fabs y)) → Upto unit (div binary64 x y)
div_most x y Y h k =
    subst (λ (v : Float). Upto v (div binary64 x y)) (div_self (fabs y) (fabs_plain y Y).1 (omega (arith, fabs_above y h)))
    (upto_div binary64 (fabs y) (fabs y) (fabs_plain y Y).0 (fabs_plain y Y).0 (lt→ltb 0 (above (fabs y)) (fabs_above y h)) x y Y k (le_refl_of (fabs y) (finite_number (fabs y) (fabs_plain y Y).1)))

pub above_zero : (y : Float) → T (is_finite y) → T (lt nought y) → 0 < above y + under y
unfolding lt is_finite
above_zero nan Y h = absurd Y
above_zero (inf s) Y h = absurd Y
above_zero (fin true m e) Y h = absurd h
above_zero (fin false m e) Y h = some (m * up e) (down e) (ltb→lt (0 * down e) (m * up e * 1) h)
  where
    some : (a d : ℕ) → 0 * d < a * 1 → 0 < a + 0
    some a d h = omega arith

whole : (a : ℕ) → 0 < a + 0 → 0 < a
whole a h = omega arith

zeroed : (a d : ℕ) → 0 * d + a * 1 ≤ 0 * 1 + 0 * d → a ≡ 0
zeroed a d h = omega arith

-- not below zero where the dividend is not and the divisor is above it
pub div_above : (x y : Float) → T (is_finite x) → T (is_finite y) → T (le nought x) → T (lt nought y) → T (le nought (div binary64 x y))
unfolding div is_finite
div_above nan y X Y h k = absurd X
div_above (inf s) y X Y h k = absurd X
div_above (fin s m e) nan X Y h k = absurd Y
div_above (fin s m e) (inf t) X Y h k = absurd Y
div_above (fin s m e) (fin true n d) X Y h k = absurd (unfold lt in k)
div_above (fin false m e) (fin false n d) X Y h k =
    subst (λ (v : Float). T (le nought v)) (sym (cond_no (eqb n 0) (cond (eqb m 0) nan (inf false)) (round binary64 false (m * up e * down d) (n * up d * down e)) (not_none false n (up d) (above_zero (fin false n d) tt k))))
    (positive_round binary64 (m * up e * down d) (n * up d * down e) (mul-pos (whole (n * up d) (above_zero (fin false n d) tt k)) (down_pos e)))
div_above (fin true m e) (fin false n d) X Y h k =
    subst (λ (v : Float). T (le nought v)) (sym (cond_no (eqb n 0) (cond (eqb m 0) nan (inf true)) (round binary64 true (m * up e * down d) (n * up d * down e)) (not_none false n (up d) (above_zero (fin false n d) tt k)) ∙ ap (λ (a : ℕ). round binary64 true (a * down d) (n * up d * down e)) (zeroed (m * up e) (down e) (le_parts nought (fin true m e) tt tt h)) ∙ ap (λ (a : ℕ). round binary64 true a (n * up d * down e)) (zero-mul (down d)) ∙ zero_round binary64 true (n * up d * down e) (mul-pos (whole (n * up d) (above_zero (fin false n d) tt k)) (down_pos e))))
    (unfold le lt eq in tt)
