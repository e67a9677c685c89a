-- Finite values as differences of two fractions, one of which is zero, and what rounds a difference
-- of fractions: of two differences the larger rounds to a value that is no smaller. Sums and
-- products round such differences, so they keep the order of what they are made from. Assumes
-- nothing.
use Rattle.std.specs.Prelude.{◌≡◌, ◌⊎◌, Bool, true, false, not, ◌&&◌, ◌||◌, cond, ℤ, pos, T, ltb, eqb, Float}
use Rattle.std.proofs.Math.Path.{refl}
use Rattle.std.proofs.Common.{sym, ap, ◌∙◌, subst, inl, inr, eq-or-lt_of_le, eq-zero-or-pos, add-mul, mul_comm, mul_assoc, mul_left_comm, mul-pos, mul-le-mul_right, zero-mul, mul-one, zero-lt-suc, ltb→lt, lt→ltb, nltb→le, eqb→eq}
use Prim.Native.Nat.{ℕ, zero, suc, ◌+◌, ◌-◌, ◌*◌, ◌≤◌, ◌<◌}
use native.Mathlib.Omega.{arith}
use Rattle.std.specs.Float.{nan, inf, fin, Format, binary32, binary64}
use Rattle.std.specs.Float.Ieee.{up, down, round, sum, neg, add, mul, lt, eq, le, below, level}
use Rattle.std.specs.Float.Ieee.Fits.{down_pos, and_i, and_l, and_r, eq→eqb}
use Rattle.std.specs.Float.Ieee.Order.{round_mono}
use Rattle.std.specs.Float.Ieee.Scale.{round_same}
use Rattle.checked.specs.Checked.{is_finite}
use Rattle.order.specs.Order.{or_cases, or_l, or_r, le_trans_of}
use Rattle.rounding.specs.Values.{neg_round}
use Rattle.float_bounds.specs.Parts.{plus, minus, above, under, den, Most, nought, Rounds}

pub den_pos : (x : Float) → 0 < den x
den_pos nan = zero-lt-suc 0
den_pos (inf s) = zero-lt-suc 0
den_pos (fin s m e) = down_pos e

scale_plus : (s : Bool) (a k : ℕ) → plus s (a * k) ≡ plus s a * k
scale_plus true a k = sym (zero-mul k)
scale_plus false a k = refl

scale_minus : (s : Bool) (a k : ℕ) → minus s (a * k) ≡ minus s a * k
scale_minus true a k = refl
scale_minus false a k = sym (zero-mul k)

or_eq : (a b : ℕ) → a ≤ b → T (ltb a b || (eqb a b && true))
or_eq a b h = elim (eq-or-lt_of_le h) [
  | inl e ↦ or_r (ltb a b) (eqb a b && true) (and_i (eqb a b) true (eq→eqb e) tt)
  | inr l ↦ or_l (ltb a b) (eqb a b && true) (lt→ltb a b l)
]

or_le : (a b : ℕ) → T (ltb a b) ⊎ T (eqb a b && true) → a ≤ b
or_le a b (inl t) = omega (arith, ltb→lt a b t)
or_le a b (inr t) = omega (arith, eqb→eq a b (and_l (eqb a b) true t))

most : (s : Bool) (a : ℕ) (t : Bool) (b : ℕ) → T (below s a t b || level s a t b) → Most s a t b
most false a false b h = omega (arith, or_le a b (or_cases (ltb a b) (eqb a b && true) h))
most false a true b h = omega (arith, eqb→eq a b (and_l (eqb a b) (eqb a 0) h), eqb→eq a 0 (and_r (eqb a b) (eqb a 0) h))
most true a false b h = omega arith
most true a true b h = flip (or_cases (ltb b a) (eqb a b && true) h)
  where
    flip : T (ltb b a) ⊎ T (eqb a b && true) → Most true a true b
    flip (inl t) = omega (arith, ltb→lt b a t)
    flip (inr t) = omega (arith, eqb→eq a b (and_l (eqb a b) true t))

pub le_parts : (x y : Float) → T (is_finite x) → T (is_finite y) → T (le x y) → above x * den y + under y * den x ≤ above y * den x + under x * den y
unfolding le lt eq is_finite
le_parts nan y X Y h = absurd X
le_parts (inf s) y X Y h = absurd X
le_parts (fin s m e) nan X Y h = absurd Y
le_parts (fin s m e) (inf t) X Y h = absurd Y
le_parts (fin s m e) (fin t n d) X Y h =
    rw (← scale_plus s (m * up e) (down d), ← scale_minus t (n * up d) (down e), ← scale_plus t (n * up d) (down e), ← scale_minus s (m * up e) (down d))
    (most s (m * up e * down d) t (n * up d * down e) h)

least : (s : Bool) (a : ℕ) (t : Bool) (b : ℕ) → Most s a t b → T (below s a t b || level s a t b)
least false a false b h = or_eq a b (omega arith)
least false a true b h = and_i (eqb a b) (eqb a 0) (eq→eqb {a = a} {b = b} (omega arith)) (eq→eqb {a = a} {b = 0} (omega arith))
least true a false b h = elim (eq-zero-or-pos (a + b)) [
  | inl e ↦ or_r (ltb 0 (a + b)) (eqb a b && eqb a 0) (and_i (eqb a b) (eqb a 0) (eq→eqb {a = a} {b = b} (omega arith)) (eq→eqb {a = a} {b = 0} (omega arith)))
  | inr l ↦ or_l (ltb 0 (a + b)) (eqb a b && eqb a 0) (lt→ltb 0 (a + b) l)
]
least true a true b h = elim (eq-or-lt_of_le (back a b h)) [
  | inl e ↦ or_r (ltb b a) (eqb a b && true) (and_i (eqb a b) true (eq→eqb (sym e)) tt)
  | inr l ↦ or_l (ltb b a) (eqb a b && true) (lt→ltb b a l)
]
  where
    back : (a b : ℕ) → Most true a true b → b ≤ a
    back a b h = omega arith

pub le_back : (x y : Float) → T (is_finite x) → T (is_finite y) → above x * den y + under y * den x ≤ above y * den x + under x * den y → T (le x y)
unfolding le lt eq is_finite
le_back nan y X Y h = absurd X
le_back (inf s) y X Y h = absurd X
le_back (fin s m e) nan X Y h = absurd Y
le_back (fin s m e) (inf t) X Y h = absurd Y
le_back (fin s m e) (fin t n d) X Y h =
    least s (m * up e * down d) t (n * up d * down e)
    (rw (scale_plus s (m * up e) (down d), scale_minus t (n * up d) (down e), scale_plus t (n * up d) (down e), scale_minus s (m * up e) (down d)) h)

-- ---- turned about zero

pub neg_twice : (x : Float) → neg (neg x) ≡ x
unfolding neg
neg_twice nan = refl
neg_twice (inf true) = refl
neg_twice (inf false) = refl
neg_twice (fin true m e) = refl
neg_twice (fin false m e) = refl

turn_le : (s : Bool) (m : ℕ) (e : ℤ) (t : Bool) (n : ℕ) (d : ℤ) → T (le (fin s m e) (fin t n d)) → T (le (fin (not t) n d) (fin (not s) m e))
unfolding is_finite
turn_le s m e t n d h = le_back (fin (not t) n d) (fin (not s) m e) tt tt (turned s (m * up e) (down e) t (n * up d) (down d) (le_parts (fin s m e) (fin t n d) tt tt h))
  where
    turned : (s : Bool) (a c : ℕ) (t : Bool) (b k : ℕ) → plus s a * k + minus t b * c ≤ plus t b * c + minus s a * k → plus (not t) b * c + minus (not s) a * k ≤ plus (not s) a * k + minus (not t) b * c
    turned true a c true b k h = omega arith
    turned true a c false b k h = omega arith
    turned false a c true b k h = omega arith
    turned false a c false b k h = omega arith

pub neg_le : (x y : Float) → T (le x y) → T (le (neg y) (neg x))
unfolding le lt eq neg
neg_le nan y h = absurd h
neg_le (inf s) nan h = absurd h
neg_le (inf true) (inf true) h = tt
neg_le (inf true) (inf false) h = tt
neg_le (inf false) (inf true) h = absurd h
neg_le (inf false) (inf false) h = tt
neg_le (inf true) (fin t n d) h = tt
neg_le (inf false) (fin t n d) h = absurd h
neg_le (fin s m e) nan h = absurd h
neg_le (fin s m e) (inf true) h = absurd h
neg_le (fin s m e) (inf false) h = tt
neg_le (fin true m e) (fin true n d) h = turn_le true m e true n d h
neg_le (fin true m e) (fin false n d) h = turn_le true m e false n d h
neg_le (fin false m e) (fin true n d) h = turn_le false m e true n d h
neg_le (fin false m e) (fin false n d) h = turn_le false m e false n d h

zero_whole : (f : Format) (s : Bool) → round f s 0 1 ≡ fin s 0 (pos 0)
unfolding round
zero_whole binary32 true = refl
zero_whole binary32 false = refl
zero_whole binary64 true = refl
zero_whole binary64 false = refl

pub zero_round : (f : Format) (s : Bool) (c : ℕ) → 0 < c → round f s 0 c ≡ fin s 0 (pos 0)
zero_round f s c C = round_same f s 0 c 0 1 C (zero-lt-suc 0) (mul-one 0 ∙ sym (zero-mul c)) ∙ zero_whole f s

pub positive_round : (f : Format) (a c : ℕ) → 0 < c → T (le nought (round f false a c))
positive_round f a c C = subst (λ (v : Float). T (le v (round f false a c))) (zero_round f false c C) (round_mono f 0 c a c C C (omega arith))

negative_round : (f : Format) (a c : ℕ) → 0 < c → T (le (round f true a c) nought)
negative_round f a c C =
    subst (λ (v : Float). T (le v nought)) (neg_round f a c)
    (le_trans_of (neg (round f false a c)) (neg nought) nought (neg_le nought (round f false a c) (positive_round f a c C)) (unfold neg le lt eq in tt))

pub round_le : (f : Format) (s : Bool) (a c : ℕ) (t : Bool) (b d : ℕ) → 0 < c → 0 < d → Most s (a * d) t (b * c) → T (le (round f s a c) (round f t b d))
round_le f false a c false b d C D h = round_mono f a c b d C D (omega arith)
round_le f true a c true b d C D h =
    subst (λ (v : Float). T (le v (round f true b d))) (neg_round f a c)
    (subst (λ (v : Float). T (le (neg (round f false a c)) v)) (neg_round f b d)
    (neg_le (round f false b d) (round f false a c) (round_mono f b d a c D C (omega arith))))
round_le f true a c false b d C D h = le_trans_of (round f true a c) nought (round f false b d) (negative_round f a c C) (positive_round f b d D)
round_le f false a c true b d C D h =
    subst (λ (v : Float). T (le v (round f true b d))) (sym (zeroed false a c d C D (omega arith)))
    (subst (λ (v : Float). T (le nought v)) (sym (zeroed true b d c D C (omega arith))) (unfold le lt eq in tt))
  where
    none : (a d : ℕ) → 0 < d → a * d ≡ 0 → a ≡ 0
    none zero d D h = refl
    none (suc a) d D h = absurd (clash (suc a * d) (mul-pos (zero-lt-suc a) D) h)
      where
        clash : (k : ℕ) → 0 < k → k ≡ 0 → ⊥
        clash k p q = omega arith

    zeroed : (s : Bool) (a c d : ℕ) → 0 < c → 0 < d → a * d ≡ 0 → round f s a c ≡ fin s 0 (pos 0)
    zeroed s a c d C D h = ap (λ (k : ℕ). round f s k c) (none a d D h) ∙ zero_round f s c C

pub rounds_le : (f : Format) (v : Float) (p n c : ℕ) (w : Float) (q m d : ℕ) → Rounds f v p n c → Rounds f w q m d → 0 < c → 0 < d → p * d + m * c ≤ q * c + n * d → T (le v w)
rounds_le f v p n c w q m d R S C D h =
    subst (λ (z : Float). T (le z w)) (sym R.is)
    (subst (λ (z : Float). T (le (round f R.sign R.size c) z)) (sym S.is)
    (round_le f R.sign R.size c S.sign S.size d C D
    (rw (scale_plus R.sign R.size d, scale_minus S.sign S.size c, scale_plus S.sign S.size c, scale_minus R.sign R.size d)
    (apart (plus R.sign R.size) (minus R.sign R.size) p n (plus S.sign S.size) (minus S.sign S.size) q m R.parts S.parts h))))
  where
    apart : (a b p n g k q m : ℕ) → a + n ≡ b + p → g + m ≡ k + q → p * d + m * c ≤ q * c + n * d → a * d + k * c ≤ g * c + b * d
    apart a b p n g k q m x y h =
        let x' : a * d + n * d ≡ b * d + p * d = sym (add-mul a n d) ∙ ap (λ (z : ℕ). z * d) x ∙ add-mul b p d in
        let y' : g * c + m * c ≡ k * c + q * c = sym (add-mul g m c) ∙ ap (λ (z : ℕ). z * c) y ∙ add-mul k q c in
        omega arith

-- ---- sums and products round such differences

two_signs : (f : Format) (s t : Bool) (a b c : ℕ) → Rounds f (sum f s a t b c) (plus s a + plus t b) (minus s a + minus t b) c
unfolding sum
two_signs f true true a b c = record { sign = true; size = a + b; is = refl; parts = omega arith }
two_signs f false false a b c = record { sign = false; size = a + b; is = refl; parts = omega arith }
two_signs f true false a b c = go (ltb a b) (ltb→lt a b) (nltb→le a b) (ltb b a) (ltb→lt b a) (nltb→le b a)
  where
    go : (t : Bool) → (T t → a < b) → (T (not t) → b ≤ a) → (u : Bool) → (T u → b < a) → (T (not u) → a ≤ b) → Rounds f (cond t (round f false (b - a) c) (round f u (a - b) c)) (0 + b) (a + 0) c
    go true p q u k j = let h = p tt in record { sign = false; size = b - a; is = refl; parts = omega arith }
    go false p q true k j = let h = q tt in record { sign = true; size = a - b; is = refl; parts = omega arith }
    go false p q false k j = let h = q tt in let i = j tt in record { sign = false; size = a - b; is = refl; parts = omega arith }
two_signs f false true a b c = go (ltb a b) (ltb→lt a b) (nltb→le a b)
  where
    go : (t : Bool) → (T t → a < b) → (T (not t) → b ≤ a) → Rounds f (cond t (round f true (b - a) c) (round f false (a - b) c)) (a + 0) (0 + b) c
    go true p q = let h = p tt in record { sign = true; size = b - a; is = refl; parts = omega arith }
    go false p q = let h = q tt in record { sign = false; size = a - b; is = refl; parts = omega arith }

pub add_rounds : (f : Format) (x y : Float) → T (is_finite x) → T (is_finite y) → Rounds f (add f x y) (above x * den y + above y * den x) (under x * den y + under y * den x) (den x * den y)
unfolding add is_finite
add_rounds f nan y X Y = absurd X
add_rounds f (inf s) y X Y = absurd X
add_rounds f (fin s m e) nan X Y = absurd Y
add_rounds f (fin s m e) (inf t) X Y = absurd Y
add_rounds f (fin s m e) (fin t n d) X Y =
    rw (← scale_plus s (m * up e) (down d), ← scale_plus t (n * up d) (down e), ← scale_minus s (m * up e) (down d), ← scale_minus t (n * up d) (down e))
    (two_signs f s t (m * up e * down d) (n * up d * down e) (down e * down d))

pub mul_rounds : (f : Format) (x y : Float) → T (is_finite x) → T (is_finite y) → Rounds f (mul f x y) (above x * above y + under x * under y) (above x * under y + under x * above y) (den x * den y)
unfolding mul is_finite
mul_rounds f nan y X Y = absurd X
mul_rounds f (inf s) y X Y = absurd X
mul_rounds f (fin s m e) nan X Y = absurd Y
mul_rounds f (fin s m e) (inf t) X Y = absurd Y
mul_rounds f (fin true m e) (fin true n d) X Y = record { sign = false; size = m * up e * (n * up d); is = refl; parts = omega arith }
mul_rounds f (fin true m e) (fin false n d) X Y = record { sign = true; size = m * up e * (n * up d); is = refl; parts = omega arith }
mul_rounds f (fin false m e) (fin true n d) X Y = record { sign = true; size = m * up e * (n * up d); is = refl; parts = omega arith }
mul_rounds f (fin false m e) (fin false n d) X Y = record { sign = false; size = m * up e * (n * up d); is = refl; parts = omega arith }

-- ---- a sum of larger values is no smaller

pub add_le : (f : Format) (x x' y y' : Float) → T (is_finite x) → T (is_finite x') → T (is_finite y) → T (is_finite y') → T (le x x') → T (le y y') → T (le (add f x y) (add f x' y'))
add_le f x x' y y' X X' Y Y' h k =
    rounds_le f (add f x y) _ _ (den x * den y) (add f x' y') _ _ (den x' * den y') (add_rounds f x y X Y) (add_rounds f x' y' X' Y') (mul-pos (den_pos x) (den_pos y)) (mul-pos (den_pos x') (den_pos y'))
    (joined (above x) (under x) (den x) (above y) (under y) (den y) (above x') (under x') (den x') (above y') (under y') (den y') (le_parts x x' X X' h) (le_parts y y' Y Y' k))
  where
    joined : (p n c q m d p' n' c' q' m' d' : ℕ) → p * c' + n' * c ≤ p' * c + n * c' → q * d' + m' * d ≤ q' * d + m * d'
        → (p * d + q * c) * (c' * d') + (n' * d' + m' * c') * (c * d) ≤ (p' * d' + q' * c') * (c * d) + (n * d + m * c) * (c' * d')
    joined p n c q m d p' n' c' q' m' d' h k =
        let a = simp (add-mul, mul_assoc, mul_comm, mul_left_comm) at (mul-le-mul_right (d * d') h) in
        let b = simp (add-mul, mul_assoc, mul_comm, mul_left_comm) at (mul-le-mul_right (c * c') k) in
        simp (add-mul, mul_assoc, mul_comm, mul_left_comm) (omega arith)
