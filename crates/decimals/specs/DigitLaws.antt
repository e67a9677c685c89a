-- What the decimal digits of a number are: digits, which read back as the number, and of which the first is not 0 unless the number is. Assumes nothing.
use Rattle.std.specs.Prelude.{◌≡◌, ◌≢◌, Bool, true, cond, List, [], ◌∷◌, ◌++◌, T, eqb, length, drop, set}
use Rattle.std.proofs.Math.Path.{refl, sym, ap}
use Rattle.std.proofs.Common.{◌∙◌, subst, lt_of_lt_of_le, le_trans, pow-suc, div-lt_iff_lt-mul, arith, eqb→eq, lit≤, lit<, ne_eqb, eq-eqb, length-append, drop-cons, drop-set-lt, get_or-set_same, lt-length-set}
use Rattle.std.proofs.Math.Bool.{false}
use Prim.Native.Nat.{ℕ, zero, suc, ◌+◌, ◌-◌, ◌*◌, ◌/◌, ◌%◌, ◌^◌, ◌≤◌, ◌<◌}
use Rattle.std.proofs.Math.Nat.{le-suc, pow-le-pow_left, pow-le-pow_right}
use Rattle.std.proofs.lemmas.Bool.{eqb-false}
use Rattle.std.specs.Float.Ieee.{size}
use Rattle.std.specs.Float.Ieee.Digits.{size-lt}
use Rattle.decimals.specs.Digits.{glyph, spelled, digits}

-- ---- digits in a buffer
-- what stands from a place on, after a store there
pub drop_set : (l : List ℕ) (i a : ℕ) → i < length l → drop i (set l i a) ≡ a ∷ drop (suc i) l
drop_set l i a h =
    drop-cons (set l i a) i 0 (lt-length-set l i a h)
    ∙ ap (λ (x : ℕ). x ∷ drop (suc i) (set l i a)) (get_or-set_same l i a 0 h)
    ∙ ap (λ (r : List ℕ). a ∷ r) (drop-set-lt (suc i) l i a (next i))
  where
    next : (k : ℕ) → k < suc k
    next k = omega arith

-- ---- how many digits there may be does not count, once they are enough
-- the digits before the last one, where n is what they are of
abbrev pub ahead : ℕ → ℕ → List ℕ
ahead k n = cond (eqb n 0) [] (spelled k n)

pub spelled_suc : (k n : ℕ) → spelled (suc k) n ≡ ahead k (n / 10) ++ (glyph (n % 10) ∷ [])
unfolding spelled
spelled_suc k n = refl

pub fewer : (n k : ℕ) → n < 10 ^ suc k → n / 10 < 10 ^ k
fewer n k h = (div-lt_iff_lt-mul (lit< tt)).1 (subst (λ (p : ℕ). n < p) (pow-suc 10 k) h)

pub ahead_zero : (k n : ℕ) → n ≡ 0 → ahead k n ≡ []
ahead_zero k n e = simp (eq-eqb n 0 e)

pub ahead_some : (k n : ℕ) → n ≢ 0 → ahead k n ≡ spelled k n
ahead_some k n h = simp (ne_eqb n 0 h)

nought : (n : ℕ) → n < 1 → n ≡ 0
nought n h = omega arith

enough : (j k n : ℕ) → n < 10 ^ j → n < 10 ^ k → ahead j n ≡ ahead k n
enough zero k n J K = ahead_zero zero n (nought n J) ∙ sym (ahead_zero k n (nought n J))
enough (suc j) zero n J K = ahead_zero (suc j) n (nought n K) ∙ sym (ahead_zero zero n (nought n K))
enough (suc j) (suc k) n J K =
    ap (cond (eqb n 0) [])
    (spelled_suc j n
    ∙ ap (λ (xs : List ℕ). xs ++ (glyph (n % 10) ∷ [])) (enough j k (n / 10) (fewer n j J) (fewer n k K))
    ∙ sym (spelled_suc k n))

under : (n : ℕ) → n < 10 ^ suc (size n)
under n = lt_of_lt_of_le (size-lt n) (le_trans (pow-le-pow_left (lit≤ tt) (size n)) (pow-le-pow_right (lit< tt) (le-suc (size n))))

pub digits_are : (k n : ℕ) → n < 10 ^ suc k → digits n ≡ ahead k (n / 10) ++ (glyph (n % 10) ∷ [])
unfolding digits
digits_are k n h =
    spelled_suc (size n) n
    ∙ ap (λ (xs : List ℕ). xs ++ (glyph (n % 10) ∷ [])) (enough (size n) k (n / 10) (fewer n (size n) (under n)) (fewer n k h))

-- ---- they read back as the number
-- the number that digits stand for, after what was read already
unfoldable pub read_on : ℕ → List ℕ → ℕ
read_on a [] = a
read_on a (d ∷ ds) = read_on (10 * a + (d - 48)) ds

read_last : (a : ℕ) (xs : List ℕ) (d : ℕ) → read_on a (xs ++ (d ∷ [])) ≡ 10 * read_on a xs + (d - 48)
unfolding read_on
read_last a [] d = refl
read_last a (x ∷ xs) d = read_last (10 * a + (x - 48)) xs d

back : (n : ℕ) → 10 * (n / 10) + (48 + n % 10 - 48) ≡ n
back n = omega arith

read_spelled : (k n : ℕ) → n < 10 ^ k → read_on 0 (ahead k n) ≡ n
read_spelled zero n h = unfold read_on in ap (read_on 0) (ahead_zero zero n (nought n h)) ∙ sym (nought n h)
read_spelled (suc k) n h = by_test (eqb n 0) (eqb→eq n 0) (last (read_spelled k (n / 10) (fewer n k h)))
  where
    last : read_on 0 (ahead k (n / 10)) ≡ n / 10 → read_on 0 (spelled (suc k) n) ≡ n
    last r =
        ap (read_on 0) (spelled_suc k n)
        ∙ read_last 0 (ahead k (n / 10)) (glyph (n % 10))
        ∙ ap (λ (m : ℕ). 10 * m + (48 + n % 10 - 48)) r
        ∙ back n

    by_test : (b : Bool) → (T b → n ≡ 0) → read_on 0 (spelled (suc k) n) ≡ n → read_on 0 (cond b [] (spelled (suc k) n)) ≡ n
    by_test true e r = unfold read_on in sym (e tt)
    by_test false e r = r

pub read_back : (n : ℕ) → read_on 0 (digits n) ≡ n
read_back n =
    ap (read_on 0) (digits_are (size n) n (under n))
    ∙ read_last 0 (ahead (size n) (n / 10)) (glyph (n % 10))
    ∙ ap (λ (m : ℕ). 10 * m + (48 + n % 10 - 48)) (read_spelled (size n) (n / 10) (fewer n (size n) (under n)))
    ∙ back n

-- ---- none but 0 begins with a 0
-- the first byte of a text; 0 stands for none
unfoldable pub leading : List ℕ → ℕ
leading [] = 0
leading (d ∷ ds) = d

lead_append : (xs : List ℕ) (d : ℕ) → 48 < leading xs → 48 < leading (xs ++ (d ∷ []))
unfolding leading
lead_append [] d h = absurd (omega arith)
lead_append (x ∷ xs) d h = h

alone : (n : ℕ) → n / 10 ≡ 0 → n ≢ 0 → 48 < 48 + n % 10
alone n e h = omega arith

lead : (k n : ℕ) → n < 10 ^ k → n ≢ 0 → 48 < leading (spelled k n)
lead zero n h N = absurd (N (nought n h))
lead (suc k) n h N =
    subst (λ (xs : List ℕ). 48 < leading xs) (sym (spelled_suc k n))
    (by_test (eqb (n / 10) 0) (eqb→eq (n / 10) 0) (λ t. lead_append (spelled k (n / 10)) (glyph (n % 10)) (lead k (n / 10) (fewer n k h) (eqb-false (n / 10) 0 t))))
  where
    by_test : (b : Bool) → (T b → n / 10 ≡ 0) → (b ≡ false → 48 < leading (spelled k (n / 10) ++ (glyph (n % 10) ∷ []))) → 48 < leading (cond b [] (spelled k (n / 10)) ++ (glyph (n % 10) ∷ []))
    by_test true e l = unfold leading in alone n (e tt) N
    by_test false e l = l refl

pub no_leading_zero : (n : ℕ) → n ≢ 0 → 48 < leading (digits n)
unfolding digits
no_leading_zero n N = lead (suc (size n)) n (under n) N

-- ---- each is a digit
-- every byte of a text is between two
abbrev pub Between : ℕ → ℕ → List ℕ → Type 0
Between lo hi [] = Unit {0}
Between lo hi (d ∷ ds) = (lo ≤ d) × (d ≤ hi) × Between lo hi ds

between_last : (lo hi : ℕ) (xs : List ℕ) (d : ℕ) → Between lo hi xs → lo ≤ d → d ≤ hi → Between lo hi (xs ++ (d ∷ []))
between_last lo hi [] d b l h = (l, h, tt)
between_last lo hi (x ∷ xs) d b l h = (b.0, b.1, between_last lo hi xs d b.2 l h)

spelled_digits : (k n : ℕ) → Between 48 57 (spelled k n)
unfolding spelled
spelled_digits zero n = tt
spelled_digits (suc k) n = between_last 48 57 (cond (eqb (n / 10) 0) [] (spelled k (n / 10))) (glyph (n % 10)) (by_test (eqb (n / 10) 0) (spelled_digits k (n / 10))) (from n) (upto n)
  where
    by_test : (b : Bool) → Between 48 57 (spelled k (n / 10)) → Between 48 57 (cond b [] (spelled k (n / 10)))
    by_test true h = tt
    by_test false h = h

    from : (m : ℕ) → 48 ≤ 48 + m % 10
    from m = omega arith

    upto : (m : ℕ) → 48 + m % 10 ≤ 57
    upto m = omega arith

pub all_digits : (n : ℕ) → Between 48 57 (digits n)
unfolding digits
all_digits n = spelled_digits (suc (size n)) n

-- ---- they are few
few : (k n : ℕ) → length (spelled k n) ≤ k
unfolding spelled
few zero n = lit≤ tt
few (suc k) n = by_test (eqb (n / 10) 0) (few k (n / 10))
  where
    by_test : (b : Bool) → length (spelled k (n / 10)) ≤ k → length (cond b [] (spelled k (n / 10)) ++ (glyph (n % 10) ∷ [])) ≤ suc k
    by_test true h = omega arith
    by_test false h = simp (length-append) (omega arith)

pub digits_length : (k n : ℕ) → n < 10 ^ suc k → length (digits n) ≤ suc k
digits_length k n h = subst (λ (xs : List ℕ). length xs ≤ suc k) (sym (digits_are k n h ∙ sym (spelled_suc k n))) (few (suc k) n)
