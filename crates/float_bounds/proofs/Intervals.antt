-- What an operation makes of bounds of its operands. A bound is a number of the format, and the
-- operation on the bounds bounds the result: with closed numbers for bounds it computes. Assumes
-- nothing.
use Rattle.std.specs.Prelude.{◌≡◌, Bool, not, cond, T, ltb, eqb, Float}
use Rattle.std.proofs.Math.Path.{refl, ap}
use Rattle.std.proofs.Common.{sym, ◌∙◌, subst, add-zero, mul-le-mul_right, le_trans, le_of_eq, add-mul, mul_comm, mul_assoc, mul_left_comm, mul-pos, mul-le-mul, zero-lt-suc, zero-mul, arith, ltb→lt, eqb→eq}
use Rattle.std.proofs.Math.Bool.{true, false}
use Prim.Native.Nat.{ℕ, zero, suc, ◌+◌, ◌-◌, ◌*◌, ◌/◌, ◌%◌, ◌≤◌, ◌<◌, ◌^◌, compare}
use Rattle.std.proofs.Math.Nat.{mul-mul-mul_comm}
use Rattle.std.proofs.Math.Dec.{not_T}
use Rattle.std.specs.Float.Ieee.{nan, prec, emax, low, up, down, size, nearest, odd, units, round, sum, neg, add, sub, mul, div, lt, eq, le, unlike, is_nan}
use Rattle.std.specs.Float.{inf, fin, Format, binary64}
use Rattle.std.specs.Float.Ieee.Fits.{down_pos, round_is}
use Rattle.std.specs.Float.Ieee.Bits.{cond_no}
use Rattle.std.specs.Float.Ieee.Order.{round_mono}
use Rattle.checked.specs.Checked.{is_finite}
use Rattle.order.specs.Order.{le_trans_of, le_refl_of}
use Rattle.rounding.specs.Values.{neg_round}
use Rattle.float_bits.specs.FloatBits.{fabs}
use Rattle.float_bounds.specs.Parts.{plus, minus, above, under, den}
use Rattle.float_bounds.proofs.Parts.{den_pos, le_parts, le_back, neg_le, neg_twice, add_le, rounds_le, mul_rounds}
use Rattle.float_bounds.specs.Intervals.{In, Upto, plain, positive}

pub plain_finite : (a : Float) → T (plain a) → T (is_finite a)
unfolding is_finite
plain_finite nan h = absurd h
plain_finite (inf s) h = absurd h
plain_finite (fin s m e) h = tt

pub plain_fabs : (a : Float) → T (plain a) → fabs a ≡ a
unfolding fabs
plain_fabs nan h = absurd h
plain_fabs (inf s) h = absurd h
plain_fabs (fin true m e) h = absurd h
plain_fabs (fin false m e) h = refl

-- ---- what lies between finite values is finite

pub in_finite : (lo hi x : Float) → T (is_finite lo) → T (is_finite hi) → In lo hi x → T (is_finite x)
unfolding is_finite le lt eq
in_finite nan hi x L H h = absurd L
in_finite (inf s) hi x L H h = absurd L
in_finite (fin s m e) nan x L H h = absurd H
in_finite (fin s m e) (inf t) x L H h = absurd H
in_finite (fin s m e) (fin t n d) nan L H h = absurd h.1
in_finite (fin s m e) (fin t n d) (inf true) L H h = absurd h.0
in_finite (fin s m e) (fin t n d) (inf false) L H h = absurd h.1
in_finite (fin s m e) (fin t n d) (fin u k c) L H h = tt

pub upto_finite : (a x : Float) → T (plain a) → Upto a x → T (is_finite x)
unfolding is_finite le lt eq fabs
upto_finite nan x A h = absurd A
upto_finite (inf s) x A h = absurd A
upto_finite (fin s m e) nan A h = absurd h
upto_finite (fin s m e) (inf t) A h = absurd h
upto_finite (fin s m e) (fin t n d) A h = tt

pub finite_number : (x : Float) → T (is_finite x) → T (not (is_nan x))
unfolding is_finite is_nan
finite_number nan h = absurd h
finite_number (inf s) h = absurd h
finite_number (fin s m e) h = tt

-- wider bounds
pub in_wider : (lo hi lo' hi' x : Float) → T (le lo' lo) → T (le hi hi') → In lo hi x → In lo' hi' x
in_wider lo hi lo' hi' x p q h = (le_trans_of lo' lo x p h.0, le_trans_of x hi hi' h.1 q)

-- ---- intervals through sums and differences

pub in_neg : (lo hi x : Float) → In lo hi x → In (neg hi) (neg lo) (neg x)
in_neg lo hi x h = (neg_le x hi h.1, neg_le lo x h.0)

pub neg_finite : (x : Float) → T (is_finite x) → T (is_finite (neg x))
unfolding is_finite neg
neg_finite nan h = h
neg_finite (inf s) h = h
neg_finite (fin s m e) h = tt

module _ (lo hi lo' hi' : Float) (L : T (is_finite lo)) (H : T (is_finite hi)) (L' : T (is_finite lo')) (H' : T (is_finite hi')) where
  pub in_add : (x y : Float) → In lo hi x → In lo' hi' y → In (add binary64 lo lo') (add binary64 hi hi') (add binary64 x y)
  in_add x y h k =
      let X = in_finite lo hi x L H h in
      let Y = in_finite lo' hi' y L' H' k in
      (add_le binary64 lo x lo' y L X L' Y h.0 k.0, add_le binary64 x hi y hi' X H Y H' h.1 k.1)

module _ (lo hi lo' hi' : Float) (L : T (is_finite lo)) (H : T (is_finite hi)) (L' : T (is_finite lo')) (H' : T (is_finite hi')) where
  pub in_sub : (x y : Float) → In lo hi x → In lo' hi' y → In (sub binary64 lo hi') (sub binary64 hi lo') (sub binary64 x y)
  unfolding sub
  in_sub x y h k = in_add lo hi (neg hi') (neg lo') L H (neg_finite hi' H') (neg_finite lo' L') x (neg y) h (in_neg lo' hi' y k)

-- ---- magnitudes

fabs_odd : (d : ℕ) (s : Bool) (q k l : ℕ) → fabs (odd d s q k l) ≡ odd d false q k l
unfolding odd fabs
fabs_odd d s zero k l = refl
fabs_odd d s (suc q) k l = refl

pub fabs_units : (f : Format) (s : Bool) (q k : ℕ) → fabs (units f s q k) ≡ units f false q k
unfolding units
fabs_units f s q k = go (ltb (q * 2 ^ k) (2 ^ (low f + suc (emax f))))
  where
    go : (b : Bool) → fabs (cond b (odd (suc (prec f)) s q k (low f)) (inf s)) ≡ cond b (odd (suc (prec f)) false q k (low f)) (inf false)
    go true = fabs_odd (suc (prec f)) s q k (low f)
    go false = unfold fabs in refl

pub fabs_round : (f : Format) (s : Bool) (a c : ℕ) → fabs (round f s a c) ≡ round f false a c
fabs_round f s a c =
    let n = a * 2 ^ low f in
    let k = size (n / c) - prec f in
    let u = c * 2 ^ k in
    ap fabs (round_is f s a c) ∙ fabs_units f s (nearest (n / u) (compare (n % u * 2) u)) k ∙ sym (round_is f false a c)

pub fabs_neg : (x : Float) → fabs (neg x) ≡ fabs x
unfolding fabs neg
fabs_neg nan = refl
fabs_neg (inf s) = refl
fabs_neg (fin s m e) = refl

-- a number lies between its magnitude and that turned about zero
pub le_fabs : (x : Float) → T (not (is_nan x)) → T (le x (fabs x))
unfolding le lt eq fabs is_nan is_finite
le_fabs nan h = absurd h
le_fabs (inf true) h = tt
le_fabs (inf false) h = tt
le_fabs (fin true m e) h = le_back (fin true m e) (fin false m e) tt tt (omega arith)
le_fabs (fin false m e) h = le_refl_of (fin false m e) tt

pub neg_fabs_le : (x : Float) → T (not (is_nan x)) → T (le (neg (fabs x)) x)
unfolding le lt eq fabs neg is_nan is_finite
neg_fabs_le nan h = absurd h
neg_fabs_le (inf true) h = tt
neg_fabs_le (inf false) h = tt
neg_fabs_le (fin true m e) h = le_refl_of (fin true m e) tt
neg_fabs_le (fin false m e) h = le_back (fin true m e) (fin false m e) tt tt (omega arith)

upto_number : (a x : Float) → Upto a x → T (not (is_nan x))
unfolding le lt eq fabs is_nan
upto_number a nan h = absurd h
upto_number a (inf s) h = tt
upto_number a (fin s m e) h = tt

-- a magnitude's bound bounds the number on both sides
pub upto_in : (a x : Float) → Upto a x → In (neg a) a x
upto_in a x h = let X = upto_number a x h in (le_trans_of (neg a) (neg (fabs x)) x (neg_le (fabs x) a h) (neg_fabs_le x X), le_trans_of x (fabs x) a (le_fabs x X) h)

pub in_upto : (a x : Float) → In (neg a) a x → Upto a x
in_upto a nan h = absurd (unfold le lt eq in h.1)
in_upto a (inf true) h = unfold fabs in (unfold neg in rw (neg_twice a) at (neg_le (neg a) (inf true) h.0))
in_upto a (inf false) h = unfold fabs in h.1
in_upto a (fin true m e) h = unfold fabs in (unfold neg in rw (neg_twice a) at (neg_le (neg a) (fin true m e) h.0))
in_upto a (fin false m e) h = unfold fabs in h.1

pub upto_wider : (a b x : Float) → T (le a b) → Upto a x → Upto b x
upto_wider a b x h k = le_trans_of (fabs x) a b k h

pub upto_neg : (a x : Float) → Upto a x → Upto a (neg x)
upto_neg a x h = rw (fabs_neg x) h

-- X / c at most A / α, as a fact of numbers
pub upto_parts : (x a : Float) → T (plain a) → Upto a x → (above x + under x) * den a ≤ above a * den x
unfolding fabs
upto_parts x nan A h = absurd A
upto_parts x (inf s) A h = absurd A
upto_parts x (fin true m e) A h = absurd A
upto_parts nan (fin false n d) A h = absurd (unfold le lt eq in h)
upto_parts (inf s) (fin false n d) A h = absurd (unfold le lt eq in h)
upto_parts (fin true m e) (fin false n d) A h = omega (arith, le_parts (fin false m e) (fin false n d) (unfold is_finite in tt) (unfold is_finite in tt) h)
upto_parts (fin false m e) (fin false n d) A h = omega (arith, le_parts (fin false m e) (fin false n d) (unfold is_finite in tt) (unfold is_finite in tt) h)

plain_under : (c : Float) → T (plain c) → under c ≡ 0
plain_under nan C = absurd C
plain_under (inf s) C = absurd C
plain_under (fin true m e) C = absurd C
plain_under (fin false m e) C = refl

whole : (s : Bool) (a : ℕ) → a ≡ plus s a + minus s a
whole true a = omega arith
whole false a = omega arith

plain_mul : (f : Format) (a b : Float) → T (plain a) → T (plain b) → mul f a b ≡ round f false (above a * above b) (den a * den b)
unfolding mul
plain_mul f nan b A B = absurd A
plain_mul f (inf s) b A B = absurd A
plain_mul f (fin true m e) b A B = absurd A
plain_mul f (fin false m e) nan A B = absurd B
plain_mul f (fin false m e) (inf t) A B = absurd B
plain_mul f (fin false m e) (fin true n d) A B = absurd B
plain_mul f (fin false m e) (fin false n d) A B = refl

neg_add : (f : Format) (a b : Float) → T (plain a) → T (plain b) → neg (add f a b) ≡ add f (neg a) (neg b)
unfolding add sum neg
neg_add f nan b A B = absurd A
neg_add f (inf s) b A B = absurd A
neg_add f (fin true m e) b A B = absurd A
neg_add f (fin false m e) nan A B = absurd B
neg_add f (fin false m e) (inf t) A B = absurd B
neg_add f (fin false m e) (fin true n d) A B = absurd B
neg_add f (fin false m e) (fin false n d) A B = neg_round f (m * up e * down d + n * up d * down e) (down e * down d)

module _ (f : Format) (a b : Float) (A : T (plain a)) (B : T (plain b)) where
  mul_size : (x y : Float) → T (is_finite x) → T (is_finite y) → fabs (mul f x y) ≡ round f false ((above x + under x) * (above y + under y)) (den x * den y)
  unfolding mul is_finite
  mul_size nan y X Y = absurd X
  mul_size (inf s) y X Y = absurd X
  mul_size (fin s m e) nan X Y = absurd Y
  mul_size (fin s m e) (inf t) X Y = absurd Y
  mul_size (fin s m e) (fin t n d) X Y = fabs_round f (unlike s t) (m * up e * (n * up d)) (down e * down d) ∙ ap (λ (k : ℕ). round f false k (down e * down d)) (λ i. whole s (m * up e) i * whole t (n * up d) i)

  pub upto_mul : (x y : Float) → Upto a x → Upto b y → Upto (mul f a b) (mul f x y)
  upto_mul x y h k =
      let X = upto_finite a x A h in
      let Y = upto_finite b y B k in
      rw (mul_size x y X Y, plain_mul f a b A B)
      (round_mono f ((above x + under x) * (above y + under y)) (den x * den y) (above a * above b) (den a * den b) (mul-pos (den_pos x) (den_pos y)) (mul-pos (den_pos a) (den_pos b))
      (product (above x + under x) (den x) (above y + under y) (den y) (above a) (den a) (above b) (den b) (upto_parts x a A h) (upto_parts y b B k)))
    where
      product : (x c y d a g b k : ℕ) → x * g ≤ a * c → y * k ≤ b * d → x * y * (g * k) ≤ a * b * (c * d)
      product x c y d a g b k p q = le_trans (le_of_eq (mul-mul-mul_comm x y g k)) (le_trans (mul-le-mul p q) (le_of_eq (mul-mul-mul_comm a c b d)))

  pub upto_add : (x y : Float) → Upto a x → Upto b y → Upto (add f a b) (add f x y)
  upto_add x y h k =
      in_upto (add f a b) (add f x y) (
        rw (neg_add f a b A B) (add_le f (neg a) x (neg b) y (neg_finite a (plain_finite a A)) (upto_finite a x A h) (neg_finite b (plain_finite b B)) (upto_finite b y B k) (upto_in a x h).0 (upto_in b y k).0),
        add_le f x a y b (upto_finite a x A h) (plain_finite a A) (upto_finite b y B k) (plain_finite b B) (upto_in a x h).1 (upto_in b y k).1,
      )

  pub upto_sub : (x y : Float) → Upto a x → Upto b y → Upto (add f a b) (sub f x y)
  unfolding sub
  upto_sub x y h k = upto_add x (neg y) h (upto_neg b y k)

-- ---- a product with a number that is not below zero

pub mul_le : (f : Format) (c x x' : Float) → T (plain c) → T (is_finite x) → T (is_finite x') → T (le x x') → T (le (mul f c x) (mul f c x'))
mul_le f c x x' C X X' h =
    rounds_le f (mul f c x) _ _ (den c * den x) (mul f c x') _ _ (den c * den x') (mul_rounds f c x (plain_finite c C) X) (mul_rounds f c x' (plain_finite c C) X') (mul-pos (den_pos c) (den_pos x)) (mul-pos (den_pos c) (den_pos x'))
    (scaled (above c) (under c) (den c) (above x) (under x) (den x) (above x') (under x') (den x') (plain_under c C) (le_parts x x' X X' h))
  where
    scaled : (a b k p n c p' n' c' : ℕ) → b ≡ 0 → p * c' + n' * c ≤ p' * c + n * c' → (a * p + b * n) * (k * c') + (a * n' + b * p') * (k * c) ≤ (a * p' + b * n') * (k * c) + (a * n + b * p) * (k * c')
    scaled a b k p n c p' n' c' z h =
        let g = simp (add-mul, mul_assoc, mul_comm, mul_left_comm) at (mul-le-mul_right (a * k) h) in
        rw z (simp (zero-mul, add-zero, mul_assoc, mul_comm, mul_left_comm) (omega arith))

pub in_scaled : (c lo hi x : Float) → T (plain c) → T (is_finite lo) → T (is_finite hi) → In lo hi x → In (mul binary64 c lo) (mul binary64 c hi) (mul binary64 c x)
in_scaled c lo hi x C L H h = let X = in_finite lo hi x L H h in (mul_le binary64 c lo x C L X h.0, mul_le binary64 c x hi C X H h.1)

some : (b y : ℕ) (c d : ℕ) → 0 < b → 0 < d → b * d ≤ y * c → 0 < y
some b zero c d B D h = absurd (clash (b * d) (mul-pos B D) (le_trans h (le_of_eq (zero-mul c))))
  where
    clash : (k : ℕ) → 0 < k → k ≤ 0 → ⊥
    clash k p q = omega arith
some b (suc y) c d B D h = zero-lt-suc y

pub not_none : (s : Bool) (m u : ℕ) → 0 < plus s (m * u) + minus s (m * u) → T (not (eqb m 0))
not_none s m u h = not_T (eqb m 0) (λ t. clash s (subst (λ (k : ℕ). 0 < plus s (k * u) + minus s (k * u)) (eqb→eq m 0 t) h))
  where
    clash : (s : Bool) → 0 < plus s (0 * u) + minus s (0 * u) → ⊥
    clash true h = omega arith
    clash false h = omega arith

pub div_is : (f : Format) (x y : Float) → T (is_finite x) → T (is_finite y) → 0 < above y + under y → fabs (div f x y) ≡ round f false ((above x + under x) * den y) ((above y + under y) * den x)
unfolding div is_finite
div_is f nan y X Y h = absurd X
div_is f (inf s) y X Y h = absurd X
div_is f (fin s m e) nan X Y h = absurd Y
div_is f (fin s m e) (inf t) X Y h = absurd Y
div_is f (fin s m e) (fin t n d) X Y h =
    ap fabs (cond_no (eqb n 0) (cond (eqb m 0) nan (inf (unlike s t))) (round f (unlike s t) (m * up e * down d) (n * up d * down e)) (not_none t n (up d) h))
    ∙ fabs_round f (unlike s t) (m * up e * down d) (n * up d * down e)
    ∙ λ i. round f false (whole s (m * up e) i * down d) (whole t (n * up d) i * down e)

plain_parts : (a : Float) → T (plain a) → above a ≡ above a + under a
plain_parts nan A = absurd A
plain_parts (inf s) A = absurd A
plain_parts (fin true m e) A = absurd A
plain_parts (fin false m e) A = omega arith

over_parts : (b y : Float) → T (plain b) → T (is_finite y) → T (le b (fabs y)) → above b * den y ≤ (above y + under y) * den b
unfolding fabs is_finite
over_parts nan y B Y h = absurd B
over_parts (inf s) y B Y h = absurd B
over_parts (fin true m e) y B Y h = absurd B
over_parts (fin false m e) nan B Y h = absurd Y
over_parts (fin false m e) (inf t) B Y h = absurd Y
over_parts (fin false m e) (fin true n d) B Y h = omega (arith, le_parts (fin false m e) (fin false n d) tt tt h)
over_parts (fin false m e) (fin false n d) B Y h = omega (arith, le_parts (fin false m e) (fin false n d) tt tt h)

plain_div : (f : Format) (a b : Float) → T (plain a) → T (plain b) → 0 < above b + under b → T (le (fabs (div f a b)) (div f a b))
unfolding div
plain_div f nan b A B h = absurd A
plain_div f (inf s) b A B h = absurd A
plain_div f (fin true m e) b A B h = absurd A
plain_div f (fin false m e) nan A B h = absurd B
plain_div f (fin false m e) (inf t) A B h = absurd B
plain_div f (fin false m e) (fin true n d) A B h = absurd B
plain_div f (fin false m e) (fin false n d) A B h =
    subst (λ (v : Float). T (le (fabs v) v)) (sym (cond_no (eqb n 0) (cond (eqb m 0) nan (inf false)) (round f false (m * up e * down d) (n * up d * down e)) (not_none false n (up d) h)))
    (subst (λ (v : Float). T (le v (round f false (m * up e * down d) (n * up d * down e)))) (sym (fabs_round f false (m * up e * down d) (n * up d * down e)))
    (round_mono f (m * up e * down d) (n * up d * down e) (m * up e * down d) (n * up d * down e) (divisor (n * up d) (down e) h (down_pos e)) (divisor (n * up d) (down e) h (down_pos e)) (le_of_eq refl)))
  where
    divisor : (n d : ℕ) → 0 < n + 0 → 0 < d → 0 < n * d
    divisor n d h D = mul-pos (omega arith) D

pub upto_div : (f : Format) (a b : Float) → T (plain a) → T (plain b) → T (positive b) → (x y : Float) → T (is_finite y) → Upto a x → T (le b (fabs y)) → Upto (div f a b) (div f x y)
upto_div f a b A B P x y Y h k =
    let X = upto_finite a x A h in
    let over = over_parts b y B Y k in
    let Y⁺ : 0 < above y + under y = some (above b) (above y + under y) (den b) (den y) (ltb→lt 0 (above b) P) (den_pos y) over in
    let B⁺ : 0 < above b + under b = subst (λ (k : ℕ). 0 < k) (plain_parts b B) (ltb→lt 0 (above b) P) in
    subst (λ (v : Float). T (le v (div f a b))) (sym (div_is f x y X Y Y⁺))
    (le_trans_of (round f false ((above x + under x) * den y) ((above y + under y) * den x)) (fabs (div f a b)) (div f a b)
    (subst (λ (v : Float). T (le (round f false ((above x + under x) * den y) ((above y + under y) * den x)) v)) (sym (div_is f a b (plain_finite a A) (plain_finite b B) B⁺))
    (round_mono f ((above x + under x) * den y) ((above y + under y) * den x) ((above a + under a) * den b) ((above b + under b) * den a) (mul-pos Y⁺ (den_pos x)) (mul-pos B⁺ (den_pos a))
    (quotient (above x + under x) (den x) (above y + under y) (den y) (above a + under a) (den a) (above b + under b) (den b) (subst (λ (k : ℕ). (above x + under x) * den a ≤ k * den x) (plain_parts a A) (upto_parts x a A h)) (subst (λ (k : ℕ). k * den y ≤ (above y + under y) * den b) (plain_parts b B) over))))
    (plain_div f a b A B B⁺))
  where
    quotient : (x c y d a g b k : ℕ) → x * g ≤ a * c → b * d ≤ y * k → x * d * (b * g) ≤ a * k * (y * c)
    quotient x c y d a g b k p q =
        le_trans (le_of_eq (one x d b g)) (le_trans (mul-le-mul p q) (le_of_eq (two a c y k)))
      where
        one : (x d b g : ℕ) → x * d * (b * g) ≡ x * g * (b * d)
        one x d b g = simp (mul_assoc, mul_comm, mul_left_comm)

        two : (a c y k : ℕ) → a * c * (y * k) ≡ a * k * (y * c)
        two a c y k = simp (mul_assoc, mul_comm, mul_left_comm)
