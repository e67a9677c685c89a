-- Laws of values and bit patterns, for a general format and exponent: two values that fit and equal
-- one fraction are the same (`value_unique`); q * 2 ^ k units, with q of prec digits or the next
-- power of two, has the pattern k * hid + q (`pattern_value`, `units_pattern`); and what the fields
-- of a value above 0 say (`read_low`, `read_mid`, `read_top`). Assumes nothing.
use Rattle.std.specs.Prelude.{◌≡◌, refl, ◌≢◌, ◌⊎◌, Bool, true, not, ◌&&◌, cond, ℕ, zero, suc, ◌+◌, ◌-◌, ◌*◌, ◌/◌, ◌%◌, ◌^◌, ◌≤◌, ◌<◌, ℤ, pos, negsuc, leb, ltb, eqb}
use Rattle.std.proofs.Common.{sym, ap, ◌∙◌, inl, inr, le_trans, le_of_eq, lt_of_le_of_lt, lt_irrefl, le-add_right, zero-lt-suc, zero-add, add-zero, mul-one, mul_comm, mul_assoc, mul_left_comm, mul_right_comm, suc-mul, mul-pos, mul-le-mul_right, pow-suc, mod-eq_of_lt, eq-or-lt_of_le, add-sub_of_le, arith, ltb→lt, le→leb, eqb→eq, pow-add, pow_pos}
use Rattle.std.proofs.Math.Path.{subst}
use Rattle.std.proofs.Math.Bool.{false}
use Rattle.std.proofs.Math.Nat.{zero-mul, pow-succ', eq_of_mul-eq-mul_right, add-mod_left, mul-add-mod_self_left}
use Rattle.std.proofs.Math.Dec.{T, nleb→lt, not_T}
use Rattle.std.proofs.Math.Arith.{digits_lt, digits_div, digits_mod, lt→nleb}
use Rattle.std.proofs.Math.Pow.{pow-lt}
use lib.Ieee.{Float, nan, inf, fin, Format, prec, emax, low, up, down, odd, units, fits, is_nan, lt, hid, ones, top, of_fields, of_bits, to_bits, nan_bits}
use Rattle.std.specs.Float.Ieee.Fits.{and_l, down_pos, up_pos, two, two-le_pos, odd-fits, inf-fits, eq→eqb}
use Rattle.std.specs.Float.Ieee.Bits.{of_bits-to_bits, of_bits-fits, nan_bits_is, is_true, is_false, cond_no}
use Rattle.std.specs.Float.Ieee.Exact.{HasValue, odd_sign, units_val}
use Rattle.rounding.specs.Values.{nought, zero_exponent}

-- ---- from one fraction to another of the same size
pub rescale : (x : Float) (s : Bool) (w l num den : ℕ) → 0 < l → num * l ≡ w * den → HasValue x s w l → HasValue x s num den
rescale nan s w l num den p h v = v
rescale (inf t) s w l num den p h v = v
rescale (fin t m e) s w l num den p h v = (
  v.0,
  eq_of_mul-eq-mul_right l p (m * up e * den) (num * down e)
      (mul_right_comm (m * up e) den l
      ∙ ap (λ (x : ℕ). x * den) v.1
      ∙ mul_right_comm w (down e) den
      ∙ ap (λ (x : ℕ). x * down e) (sym h)
      ∙ mul_right_comm num l (down e)),
)

-- ---- a value that fits is given by the fraction that it equals

even_odd : (m t : ℕ) → m % 2 ≡ 1 → m ≡ 2 * t → ⊥
even_odd m t o h = omega arith

odd_pow : (m n a b : ℕ) → m % 2 ≡ 1 → n % 2 ≡ 1 → m * 2 ^ a ≡ n * 2 ^ b → (m ≡ n) × (a ≡ b)
odd_pow m n zero zero o p h = (sym (mul-one m) ∙ h ∙ mul-one n, refl)
odd_pow m n zero (suc b) o p h = absurd (even_odd m (n * 2 ^ b) o (sym (mul-one m) ∙ h ∙ ap (λ (x : ℕ). n * x) (pow-succ' 2 b) ∙ mul_left_comm n 2 (2 ^ b)))
odd_pow m n (suc a) zero o p h = absurd (even_odd n (m * 2 ^ a) p (sym (mul-one n) ∙ sym h ∙ ap (λ (x : ℕ). m * x) (pow-succ' 2 a) ∙ mul_left_comm m 2 (2 ^ a)))
odd_pow m n (suc a) (suc b) o p h =
    let r = odd_pow m n a b o p (eq_of_mul-eq-mul_right 2 (zero-lt-suc 1) (m * 2 ^ a) (n * 2 ^ b)
    (mul_assoc m (2 ^ a) 2 ∙ ap (λ (x : ℕ). m * x) (sym (pow-suc 2 a)) ∙ h ∙ ap (λ (x : ℕ). n * x) (pow-suc 2 b) ∙ sym (mul_assoc n (2 ^ b) 2))) in
    (r.0, ap suc r.1)

no_sum : (a b : ℕ) → a + suc b ≡ 0 → ⊥
no_sum a b h = omega arith

suc_same : (a b : ℕ) → suc a ≡ suc b → b ≡ a
suc_same a b h = omega arith

cross_same : (m n : ℕ) (e g : ℤ) → m % 2 ≡ 1 → n % 2 ≡ 1 → m * up e * down g ≡ n * up g * down e → (m ≡ n) × (e ≡ g)
cross_same m n (pos a) (pos b) o p h =
    let r = odd_pow m n a b o p (sym (mul-one (m * 2 ^ a)) ∙ h ∙ mul-one (n * 2 ^ b)) in
    (r.0, ap pos r.1)
cross_same m n (pos a) (negsuc b) o p h =
    absurd (no_sum a b (odd_pow m n (a + suc b) 0 o p (ap (λ (x : ℕ). m * x) (pow-add 2 a (suc b)) ∙ sym (mul_assoc m (2 ^ a) (2 ^ suc b)) ∙ h ∙ mul-one (n * 1))).1)
cross_same m n (negsuc a) (pos b) o p h =
    absurd (no_sum b a (odd_pow n m (b + suc a) 0 p o (ap (λ (x : ℕ). n * x) (pow-add 2 b (suc a)) ∙ sym (mul_assoc n (2 ^ b) (2 ^ suc a)) ∙ sym h ∙ mul-one (m * 1))).1)
cross_same m n (negsuc a) (negsuc b) o p h =
    let r = odd_pow m n (suc b) (suc a) o p (ap (λ (x : ℕ). x * 2 ^ suc b) (sym (mul-one m)) ∙ h ∙ ap (λ (x : ℕ). x * 2 ^ suc a) (mul-one n)) in
    (r.0, ap negsuc (suc_same b a r.1))

is_odd : (f : Format) (s : Bool) (m : ℕ) (e : ℤ) → T (fits f (fin s (suc m) e)) → suc m % 2 ≡ 1
unfolding fits
is_odd f s m e t =
    eqb→eq (suc m % 2) 1 (and_l (eqb (suc m % 2) 1) (ltb (suc m) (2 ^ prec f)) (and_l (eqb (suc m % 2) 1 && ltb (suc m) (2 ^ prec f)) (leb (down e) (2 ^ low f))
    (and_l (eqb (suc m % 2) 1 && ltb (suc m) (2 ^ prec f) && leb (down e) (2 ^ low f)) (ltb (suc m * up e) (2 ^ suc (emax f) * down e)) t)))

-- m * u / d and n * v / c' are one fraction a / c
cross : (x y d g a c : ℕ) → 0 < c → x * c ≡ a * d → y * c ≡ a * g → x * g ≡ y * d
cross x y d g a c C p q =
    eq_of_mul-eq-mul_right c C (x * g) (y * d)
    (mul_right_comm x g c ∙ ap (λ (k : ℕ). k * g) p ∙ mul_right_comm a d g ∙ ap (λ (k : ℕ). k * d) (sym q) ∙ mul_right_comm y c d)

not_zero : (n : ℕ) (e g : ℤ) → 0 * up e * down g ≡ suc n * up g * down e → ⊥
not_zero n e g h =
    lt_irrefl 0 (subst (λ (k : ℕ). 0 < k) (sym h ∙ ap (λ (k : ℕ). k * down g) (zero-mul (up e)) ∙ zero-mul (down g)) (mul-pos (mul-pos (zero-lt-suc n) (up_pos g)) (down_pos e)))

pub value_unique : (f : Format) (x y : Float) (s : Bool) (a c : ℕ) → 0 < c → T (fits f x) → T (fits f y) → HasValue x s a c → HasValue y s a c → x ≡ y
value_unique f nan y s a c C p q v w = elim v [ ]
value_unique f (inf _) y s a c C p q v w = elim v [ ]
value_unique f (fin t zero e) nan s a c C p q v w = elim w [ ]
value_unique f (fin t zero e) (inf _) s a c C p q v w = elim w [ ]
value_unique f (fin t (suc m) e) nan s a c C p q v w = elim w [ ]
value_unique f (fin t (suc m) e) (inf _) s a c C p q v w = elim w [ ]
value_unique f (fin t zero e) (fin u zero g) s a c C p q v w = λ i. fin ((v.0 ∙ sym w.0) i) zero ((zero_exponent f t e p ∙ sym (zero_exponent f u g q)) i)
value_unique f (fin t zero e) (fin u (suc n) g) s a c C p q v w = absurd (not_zero n e g (cross (0 * up e) (suc n * up g) (down e) (down g) a c C v.1 w.1))
value_unique f (fin t (suc m) e) (fin u zero g) s a c C p q v w = absurd (not_zero m g e (cross (0 * up g) (suc m * up e) (down g) (down e) a c C w.1 v.1))
value_unique f (fin t (suc m) e) (fin u (suc n) g) s a c C p q v w =
    let r = cross_same (suc m) (suc n) e g (is_odd f t m e p) (is_odd f u n g q) (cross (suc m * up e) (suc n * up g) (down e) (down g) a c C v.1 w.1) in
    λ i. fin ((v.0 ∙ sym w.0) i) (r.0 i) (r.1 i)

-- ---- a pattern made of three fields is read as those fields (as in `lib.Ieee.Bits`, where it is private)

pub of_bits_is : (f : Format) (b : ℕ) → of_bits f b ≡ of_fields f (leb (top f) b) (b % top f / hid f) (b % hid f)
unfolding of_bits
of_bits_is f b = refl

same : (f : Format) {s s' : Bool} {x x' t t' : ℕ} → s ≡ s' → x ≡ x' → t ≡ t' → of_fields f s x t ≡ of_fields f s' x' t'
same f {s} {s'} {x} {x'} {t} {t'} p q r = ap (λ (a : Bool). of_fields f a x t) p ∙ ap (λ (a : ℕ). of_fields f s' a t) q ∙ ap (λ (a : ℕ). of_fields f s' x' a) r

small : (f : Format) (x t : ℕ) → x < suc (ones f) → t < hid f → x * hid f + t < top f
small f x t X H = subst (λ (a : ℕ). x * hid f + t < a) (mul_comm (suc (ones f)) (hid f)) (digits_lt X H)

pub fields : (f : Format) (s : Bool) (x t : ℕ) → x < suc (ones f) → t < hid f → of_bits f (cond s (top f) 0 + (x * hid f + t)) ≡ of_fields f s x t
fields f s x t X H = go s
  where
    go : (s : Bool) → of_bits f (cond s (top f) 0 + (x * hid f + t)) ≡ of_fields f s x t
    go true =
        of_bits_is f (top f + (x * hid f + t))
        ∙ same f (is_true (leb (top f) (top f + (x * hid f + t))) (le→leb (top f) (top f + (x * hid f + t)) (le-add_right (top f) (x * hid f + t))))
        (ap (λ (a : ℕ). a / hid f) (add-mod_left (top f) (x * hid f + t) ∙ mod-eq_of_lt (small f x t X H)) ∙ digits_div x H)
        (mul-add-mod_self_left (hid f) (suc (ones f)) (x * hid f + t) ∙ digits_mod x H)
    go false =
        ap (λ (a : ℕ). of_bits f a) (zero-add (x * hid f + t))
        ∙ of_bits_is f (x * hid f + t)
        ∙ same f (is_false (leb (top f) (x * hid f + t)) (lt→nleb (top f) (x * hid f + t) (small f x t X H)))
        (ap (λ (a : ℕ). a / hid f) (mod-eq_of_lt (small f x t X H)) ∙ digits_div x H)
        (digits_mod x H)

-- ---- the fields of a normal value

pub mid_value : (f : Format) (s : Bool) (x t : ℕ) → suc x ≢ ones f → HasValue (of_fields f s (suc x) t) s ((hid f + t) * 2 ^ x) (2 ^ low f)
unfolding of_fields
mid_value f s x t n =
    subst (λ (v : Float). HasValue v s ((hid f + t) * 2 ^ x) (2 ^ low f))
    (sym (cond_no (eqb (suc x) (ones f)) (cond (eqb t 0) (inf s) nan) (odd (prec f) s (hid f + t) x (low f)) (not_T (eqb (suc x) (ones f)) (λ u. n (eqb→eq (suc x) (ones f) u)))))
    (odd_sign (prec f) s (hid f + t) x (low f))

twice_hid : (f : Format) → 2 ^ prec f ≡ 2 * hid f
twice_hid f = go (prec f) (two-le_pos (prec f) (two f))
  where
    go : (p : ℕ) → 0 < p → 2 ^ p ≡ 2 * 2 ^ (p - 1)
    go zero h = absurd (lt_irrefl 0 h)
    go (suc p) h = pow-succ' 2 p ∙ ap (λ (k : ℕ). 2 * 2 ^ k) (back p)
      where
        back : (k : ℕ) → k ≡ suc k - 1
        back k = omega arith

-- q * 2 ^ k units, where q has prec digits or is the next power of two: the leading digit adds one
-- to the exponent's field, and a carry one more
pub pattern_value : (f : Format) (s : Bool) (q k : ℕ) → hid f ≤ q → q ≤ 2 ^ prec f → suc (suc k) < ones f → HasValue (of_bits f (cond s (top f) 0 + (k * hid f + q))) s (q * 2 ^ k) (2 ^ low f)
pattern_value f s q k lo hi K = go (eq-or-lt_of_le hi)
  where
    regroup : (h c r : ℕ) → h + r ≡ q → k * h + q ≡ suc k * h + r
    regroup h c r e = let z = suc-mul k h in omega arith

    carry : (h : ℕ) → q ≡ 2 * h → k * h + q ≡ suc (suc k) * h + 0
    carry h e = let z = suc-mul k h in let y = suc-mul (suc k) h in omega arith

    rest : (h w : ℕ) → w ≡ 2 * h → q < w → h ≤ q → q - h < h
    rest h w e a b = omega arith

    below : (o : ℕ) → suc (suc k) < o → suc k < suc o
    below o h = omega arith

    below' : (o : ℕ) → suc (suc k) < o → suc (suc k) < suc o
    below' o h = omega arith

    apart : (o : ℕ) → suc (suc k) < o → suc k ≡ o → ⊥
    apart o h e = omega arith

    apart' : (o : ℕ) → suc (suc k) < o → suc (suc k) ≡ o → ⊥
    apart' o h e = omega arith

    go : (q ≡ 2 ^ prec f) ⊎ (q < 2 ^ prec f) → HasValue (of_bits f (cond s (top f) 0 + (k * hid f + q))) s (q * 2 ^ k) (2 ^ low f)
    go (inl e) =
        let e2 : q ≡ 2 * hid f = e ∙ twice_hid f in
        subst (λ (v : Float). HasValue v s (q * 2 ^ k) (2 ^ low f))
        (sym (ap (λ (b : ℕ). of_bits f (cond s (top f) 0 + b)) (carry (hid f) e2) ∙ fields f s (suc (suc k)) 0 (below' (ones f) K) (pow_pos (prec f - 1))))
        (subst (λ (b : ℕ). HasValue (of_fields f s (suc (suc k)) 0) s b (2 ^ low f))
        (ap (λ (b : ℕ). b * 2 ^ suc k) (add-zero (hid f)) ∙ ap (λ (b : ℕ). hid f * b) (pow-succ' 2 k) ∙ sym (mul_assoc (hid f) 2 (2 ^ k)) ∙ ap (λ (b : ℕ). b * 2 ^ k) (mul_comm (hid f) 2 ∙ sym e2))
        (mid_value f s (suc k) 0 (apart' (ones f) K)))
    go (inr l) =
        subst (λ (v : Float). HasValue v s (q * 2 ^ k) (2 ^ low f))
        (sym (ap (λ (b : ℕ). of_bits f (cond s (top f) 0 + b)) (regroup (hid f) 0 (q - hid f) (add-sub_of_le lo)) ∙ fields f s (suc k) (q - hid f) (below (ones f) K) (rest (hid f) (2 ^ prec f) (twice_hid f) l lo)))
        (subst (λ (b : ℕ). HasValue (of_fields f s (suc k) (q - hid f)) s (b * 2 ^ k) (2 ^ low f)) (add-sub_of_le lo) (mid_value f s k (q - hid f) (apart (ones f) K)))

-- ---- the same as `units`

units_fits : (f : Format) (s : Bool) (q k : ℕ) → q ≤ 2 ^ prec f → T (fits f (units f s q k))
unfolding units
units_fits f s q k a = go (ltb (q * 2 ^ k) (2 ^ (low f + suc (emax f)))) (ltb→lt (q * 2 ^ k) (2 ^ (low f + suc (emax f))))
  where
    go : (b : Bool) → (T b → q * 2 ^ k < 2 ^ (low f + suc (emax f))) → T (fits f (cond b (odd (suc (prec f)) s q k (low f)) (inf s)))
    go true h = odd-fits f (suc (prec f)) s q k (lt_of_le_of_lt a (pow-lt (le_of_eq refl))) a (h tt)
    go false h = inf-fits f s

room : (p e k : ℕ) → 2 ≤ p → suc (suc k) < 2 * e + 1 → p + k < e + p - 2 + suc e
room p e k h l = omega arith

pub units_pattern : (f : Format) (s : Bool) (q k : ℕ) → hid f ≤ q → q ≤ 2 ^ prec f → suc (suc k) < ones f → units f s q k ≡ of_bits f (cond s (top f) 0 + (k * hid f + q))
units_pattern f s q k lo hi K =
    let b = cond s (top f) 0 + (k * hid f + q) in
    let u : q * 2 ^ k < 2 ^ (low f + suc (emax f)) =
    lt_of_le_of_lt (le_trans (mul-le-mul_right (2 ^ k) hi) (le_of_eq (sym (pow-add 2 (prec f) k)))) (pow-lt (room (prec f) (emax f) k (two f) K)) in
    value_unique f (units f s q k) (of_bits f b) s (q * 2 ^ k) (2 ^ low f) (pow_pos (low f)) (units_fits f s q k hi) (of_bits-fits f b) (units_val f s q k u) (pattern_value f s q k lo hi K)

no_nan : (x : Float) (s : Bool) (a c : ℕ) → HasValue x s a c → T (not (is_nan x))
unfolding is_nan
no_nan nan s a c v = absurd v
no_nan (inf t) s a c v = tt
no_nan (fin t m e) s a c v = tt

pub pattern_no_nan : (f : Format) (s : Bool) (q k : ℕ) → hid f ≤ q → q ≤ 2 ^ prec f → suc (suc k) < ones f → T (not (nan_bits f (cond s (top f) 0 + (k * hid f + q))))
pattern_no_nan f s q k lo hi K =
    let b = cond s (top f) 0 + (k * hid f + q) in
    subst (λ (t : Bool). T (not t)) (sym (nan_bits_is f b)) (no_nan (of_bits f b) s (q * 2 ^ k) (2 ^ low f) (pattern_value f s q k lo hi K))

-- ---- what the fields of a value above 0 say

sign_of : (v : Float) (s : Bool) (a c : ℕ) → T (lt nought v) → HasValue v s a c → s ≡ false
unfolding lt
sign_of nan s a c p h = absurd h
sign_of (inf t) s a c p h = absurd h
sign_of (fin true m e) s a c p h = absurd p
sign_of (fin false m e) s a c p h = sym h.0

sign_cond : (a b s : Bool) (v : Float) (q l : ℕ) → T (lt nought (cond a (cond b (inf s) nan) v)) → HasValue v s q l → s ≡ false
sign_cond true true true v q l p h = absurd (unfold lt in p)
sign_cond true true false v q l p h = refl
sign_cond true false s v q l p h = absurd (unfold lt in p)
sign_cond false b s v q l p h = sign_of v s q l p h

sign_read : (f : Format) (s : Bool) (x t : ℕ) → T (lt nought (of_fields f s x t)) → s ≡ false
unfolding of_fields
sign_read f s zero t p = sign_of (odd (prec f) s t 0 (low f)) s (t * 2 ^ 0) (2 ^ low f) p (odd_sign (prec f) s t 0 (low f))
sign_read f s (suc x) t p =
    sign_cond (eqb (suc x) (ones f)) (eqb t 0) s (odd (prec f) s (hid f + t) x (low f)) ((hid f + t) * 2 ^ x) (2 ^ low f) p (odd_sign (prec f) s (hid f + t) x (low f))

top_cond : (a b : Bool) (v : Float) → T a → T (lt nought (cond a (cond b (inf false) nan) v)) → cond a (cond b (inf false) nan) v ≡ inf false
top_cond true true v t p = refl
top_cond true false v t p = absurd (unfold lt in p)
top_cond false b v t p = absurd t

top_read : (f : Format) (x t : ℕ) → x ≡ ones f → T (lt nought (of_fields f false x t)) → of_fields f false x t ≡ inf false
unfolding of_fields
top_read f zero t e p = absurd (none (emax f) e)
  where
    none : (k : ℕ) → 0 ≡ 2 * k + 1 → ⊥
    none k h = omega arith
top_read f (suc x) t e p = top_cond (eqb (suc x) (ones f)) (eqb t 0) (odd (prec f) false (hid f + t) x (low f)) (eq→eqb e) p

low_value : (f : Format) (s : Bool) (t : ℕ) → HasValue (of_fields f s 0 t) s t (2 ^ low f)
unfolding of_fields
low_value f s t = subst (λ (k : ℕ). HasValue (odd (prec f) s t 0 (low f)) s k (2 ^ low f)) (mul-one t) (odd_sign (prec f) s t 0 (low f))

zero_fits : (f : Format) → T (fits f nought)
unfolding fits
zero_fits f = tt

zero_value : (f : Format) (x : Float) (c : ℕ) → 0 < c → T (fits f x) → T (lt nought x) → HasValue x false 0 c → ⊥
zero_value f x c C F p v = unfold lt in subst (λ (z : Float). T (lt nought z)) (value_unique f x nought false 0 c C F (zero_fits f) v (refl, zero-mul c)) p

-- x is above 0, and b is its pattern: b / hid is the exponent's field, and b % hid the digits'
module _ (f : Format) (x : Float) (F : T (fits f x)) (P : T (lt nought x)) where
  read : x ≡ of_fields f (leb (top f) (to_bits f x)) (to_bits f x % top f / hid f) (to_bits f x % hid f)
  read = sym (of_bits-to_bits f x F) ∙ of_bits_is f (to_bits f x)

  no_sign : leb (top f) (to_bits f x) ≡ false
  no_sign = sign_read f (leb (top f) (to_bits f x)) (to_bits f x % top f / hid f) (to_bits f x % hid f) (subst (λ (v : Float). T (lt nought v)) read P)

  pub bits_lt : to_bits f x < top f
  bits_lt = nleb→lt (top f) (to_bits f x) (subst (λ (b : Bool). T (not b)) (sym no_sign) tt)

  read' : x ≡ of_fields f false (to_bits f x / hid f) (to_bits f x % hid f)
  read' = read ∙ same f no_sign (ap (λ (k : ℕ). k / hid f) (mod-eq_of_lt bits_lt)) refl

  pub read_top : to_bits f x / hid f ≡ ones f → x ≡ inf false
  read_top e = read' ∙ top_read f (to_bits f x / hid f) (to_bits f x % hid f) e (subst (λ (v : Float). T (lt nought v)) read' P)

  pub read_low : to_bits f x / hid f ≡ 0 → HasValue x false (to_bits f x % hid f) (2 ^ low f)
  read_low e = subst (λ (v : Float). HasValue v false (to_bits f x % hid f) (2 ^ low f)) (sym (read' ∙ ap (λ (k : ℕ). of_fields f false k (to_bits f x % hid f)) e)) (low_value f false (to_bits f x % hid f))

  pub read_mid : (k : ℕ) → to_bits f x / hid f ≡ suc k → suc k ≢ ones f → HasValue x false ((hid f + to_bits f x % hid f) * 2 ^ k) (2 ^ low f)
  read_mid k e n =
      subst (λ (v : Float). HasValue v false ((hid f + to_bits f x % hid f) * 2 ^ k) (2 ^ low f))
      (sym (read' ∙ ap (λ (z : ℕ). of_fields f false z (to_bits f x % hid f)) e)) (mid_value f false k (to_bits f x % hid f) n)

  pub low_pos : to_bits f x / hid f ≡ 0 → 0 < to_bits f x % hid f
  low_pos e = go (to_bits f x % hid f) (read_low e)
    where
      go : (t : ℕ) → HasValue x false t (2 ^ low f) → 0 < t
      go zero v = absurd (zero_value f x (2 ^ low f) (pow_pos (low f)) F P v)
      go (suc t) v = zero-lt-suc t

pub above_no_nan : (x : Float) → T (lt nought x) → T (not (is_nan x))
unfolding lt is_nan
above_no_nan nan p = absurd p
above_no_nan (inf s) p = tt
above_no_nan (fin s m e) p = tt
