-- rem_pio2's count of quarter turns. For an x of magnitude at most 2 ^ 20, tmp = x * INV_PIO2 + 1.5
-- * 2 ^ 52 is a whole number w from 2 ^ 52 up and below 2 ^ 53: its pattern ends as w does. f_n is
-- w - 1.5 * 2 ^ 52, and so `f_n as i32 & 3` is w % 4. Assumes nothing.
use mathlib.Core.Path.{◌≡◌, refl, sym, ap, ◌∙◌, subst}
use mathlib.Core.Bool.{Bool, true, false, not, ◌&&◌, ◌||◌, cond}
use Prim.Native.Nat.{ℕ, suc, ◌+◌, ◌-◌, ◌*◌, ◌%◌, ◌^◌, ◌≤◌, ◌<◌}
use native.Mathlib.Nat.{le_of_eq, le_of_lt, mul-one, zero-lt-suc, pow-succ'}
use native.Mathlib.Omega.{arith}
use lib.IntN.{pos, negsuc}
use lib.Dec.{T, ltb, eqb, ltb→lt, lt→ltb, le→leb, eqb→eq, lit≤}
use lib.Pow.{pow_pos}
use lib.Ieee.{Float, nan, inf, fin, binary64, up, down, round, neg, add, sub, sum, lt, le, eq, fits, is_nan, of_int, to_signed, in_float, to_bits, of_bits}
use lib.Ieee.Fits.{down_pos, add-fits}
use lib.Ieee.Bits.{to_bits-of_bits, of_bits-fits}
use lib.Ieee.Exact.{HasValue}
use lib.Ieee.Back.{positive_back, negative_back}
use Rattle.rounding.specs.Values.{fits_small}
use Rattle.rounding.specs.Patterns.{value_unique, pattern_value, rescale}
use Rattle.checked.specs.Checked.{within as due}
use Rattle.float_bits.specs.FloatBits.{◌*ᶠ◌}
use Rattle.libm.specs.RemPio2.{quarter, TO_INT, INV_PIO2, tmp, turns}
use Rattle.libm.specs.RemPio2Laws.{tmp_range}

-- ---- comparisons as facts

or_le : (a b : ℕ) (s : Bool) → T (ltb a b || (eqb a b && s)) → a ≤ b
or_le a b s t = go (ltb a b) (eqb a b) (ltb→lt a b) (eqb→eq a b) t
  where
    go : (u v : Bool) → (T u → a < b) → (T v → a ≡ b) → T (u || (v && s)) → a ≤ b
    go true v p q t = le_of_lt (p tt)
    go false true p q t = le_of_eq (q tt)
    go false false p q t = absurd t

both : (a b c : ℕ) → T (eqb a b && eqb c 0) → (a ≡ b) × (c ≡ 0)
both a b c t = go (eqb a b) (eqb c 0) (eqb→eq a b) (eqb→eq c 0) t
  where
    go : (u v : Bool) → (T u → a ≡ b) → (T v → c ≡ 0) → T (u && v) → (a ≡ b) × (c ≡ 0)
    go true true p q t = (p tt, q tt)
    go true false p q t = absurd t
    go false v p q t = absurd t

-- 1.5 * 2 ^ 52
abbrev to_int : Float
to_int = fin false 3 (pos 51)

-- ---- such a value is a whole number

abbrev Whole : Float → Type 0
Whole v = (m : ℕ) × (a : ℕ) × (v ≡ fin false m (pos a)) × (6442450943 * 2 ^ 20 ≤ m * 2 ^ a) × (m * 2 ^ a ≤ 6442450945 * 2 ^ 20)

whole : (v : Float) → T (fits binary64 v) → T (le (fin false 6442450943 (pos 20)) v) → T (le v (fin false 6442450945 (pos 20))) → Whole v
unfolding le lt eq
whole nan F p q = absurd q
whole (inf true) F p q = absurd p
whole (inf false) F p q = absurd q
whole (fin true m e) F p q = absurd (never (down e) (down_pos e) (both (6442450943 * 2 ^ 20 * down e) (m * up e * 1) (6442450943 * 2 ^ 20 * down e) p).1)
  where
    never : (d : ℕ) → 0 < d → 6442450943 * 2 ^ 20 * d ≡ 0 → ⊥
    never d D h = omega arith
whole (fin false m (pos a)) F p q =
    (m, a, refl, one (m * 2 ^ a) (or_le (6442450943 * 2 ^ 20 * 1) (m * 2 ^ a * 1) true p), two (m * 2 ^ a) (or_le (m * 2 ^ a * 1) (6442450945 * 2 ^ 20 * 1) true q))
  where
    one : (w : ℕ) → 6442450943 * 2 ^ 20 * 1 ≤ w * 1 → 6442450943 * 2 ^ 20 ≤ w
    one w h = omega arith

    two : (w : ℕ) → w * 1 ≤ 6442450945 * 2 ^ 20 * 1 → w ≤ 6442450945 * 2 ^ 20
    two w h = omega arith
whole (fin false m (negsuc a)) F p q =
    absurd (never m (2 ^ a) (2 ^ suc a) (fits_small binary64 false m (negsuc a) F) (pow-succ' 2 a) (pow_pos a) (or_le (6442450943 * 2 ^ 20 * 2 ^ suc a) (m * 1 * 1) true p))
  where
    never : (m h p : ℕ) → m < 2 ^ 53 → p ≡ 2 * h → 0 < h → 6442450943 * 2 ^ 20 * p ≤ m * 1 * 1 → ⊥
    never m h p a b c d = omega arith

-- ---- its pattern, and what is left of it when 1.5 * 2 ^ 52 is taken off

no_nan : (v : Float) → Whole v → T (not (is_nan v))
unfolding is_nan
no_nan v (m, a, e, lo, hi) = subst (λ (z : Float). T (not (is_nan z))) (sym e) tt

no_nan_value : (x : Float) (s : Bool) (a c : ℕ) → HasValue x s a c → T (not (is_nan x))
unfolding is_nan
no_nan_value nan s a c v = absurd v
no_nan_value (inf t) s a c v = tt
no_nan_value (fin t m e) s a c v = tt

pattern : (v : Float) → T (fits binary64 v) → (W : Whole v) → to_bits binary64 v ≡ 1074 * 2 ^ 52 + W.0 * 2 ^ W.1
pattern v F (m, a, e, lo, hi) =
    let w = m * 2 ^ a in
    let b = 0 + (1074 * 2 ^ 52 + w) in
    let h = pattern_value binary64 false w 1074 (low_side w lo) (high_side w hi) (lit≤ tt) in
    let own : HasValue v false w 1 = subst (λ (z : Float). HasValue z false w 1) (sym e) (refl, refl) in
    let own' : HasValue v false (w * 2 ^ 1074) (2 ^ 1074) = rescale v false w 1 (w * 2 ^ 1074) (2 ^ 1074) (zero-lt-suc 0) (mul-one (w * 2 ^ 1074)) own in
    let same : v ≡ of_bits binary64 b = value_unique binary64 v (of_bits binary64 b) false (w * 2 ^ 1074) (2 ^ 1074) (pow_pos 1074) F (of_bits-fits binary64 b) own' h in
    ap (to_bits binary64) same ∙ to_bits-of_bits binary64 b (fine w hi) (no_nan_value (of_bits binary64 b) false (w * 2 ^ 1074) (2 ^ 1074) h) ∙ zeroed w
  where
    low_side : (w : ℕ) → 6442450943 * 2 ^ 20 ≤ w → 2 ^ 52 ≤ w
    low_side w h = omega arith

    high_side : (w : ℕ) → w ≤ 6442450945 * 2 ^ 20 → w ≤ 2 ^ 53
    high_side w h = omega arith

    fine : (w : ℕ) → w ≤ 6442450945 * 2 ^ 20 → 0 + (1074 * 2 ^ 52 + w) < 2 * (2 ^ 52 * 2048)
    fine w h = omega arith

    zeroed : (w : ℕ) → 0 + (1074 * 2 ^ 52 + w) ≡ 1074 * 2 ^ 52 + w
    zeroed w = omega arith

below_is : (k : ℕ) → k < 2 ^ 21 → quarter (to_signed 31 (round binary64 true (suc k) 1)) ≡ 3 - k % 4
unfolding of_int in_float
below_is k h = ap quarter (negative_back binary64 31 k (lt→ltb k (2 ^ 53) (omega arith)) (omega arith)).1

above_is : (k : ℕ) → k < 2 ^ 21 → quarter (to_signed 31 (round binary64 false k 1)) ≡ k % 4
unfolding of_int in_float
above_is k h = ap quarter (positive_back binary64 31 k (le→leb k (2 ^ 53) (omega arith)) (omega arith)).1

counted : (w : ℕ) → 6442450943 * 2 ^ 20 ≤ w → w ≤ 6442450945 * 2 ^ 20 → (t : Bool) → ltb (w * 1) (3 * 2 ^ 51 * 1) ≡ t
    → quarter (to_signed 31 (cond t (round binary64 true (3 * 2 ^ 51 * 1 - w * 1) (1 * 1)) (round binary64 (false && ltb (3 * 2 ^ 51 * 1) (w * 1)) (w * 1 - 3 * 2 ^ 51 * 1) (1 * 1)))) ≡ w % 4
counted w lo hi true e =
    let l : w * 1 < 3 * 2 ^ 51 * 1 = borrow.Author.Tests.ltb-true (w * 1) (3 * 2 ^ 51 * 1) e in
    let k = 3 * 2 ^ 51 - 1 - w in
    ap (λ (z : ℕ). quarter (to_signed 31 (round binary64 true z 1))) (back w l) ∙ below_is k (small w lo) ∙ same w l
  where
    back : (w : ℕ) → w * 1 < 3 * 2 ^ 51 * 1 → 3 * 2 ^ 51 * 1 - w * 1 ≡ suc (3 * 2 ^ 51 - 1 - w)
    back w h = omega arith

    small : (w : ℕ) → 6442450943 * 2 ^ 20 ≤ w → 3 * 2 ^ 51 - 1 - w < 2 ^ 21
    small w h = omega arith

    same : (w : ℕ) → w * 1 < 3 * 2 ^ 51 * 1 → 3 - (3 * 2 ^ 51 - 1 - w) % 4 ≡ w % 4
    same w h = omega arith
counted w lo hi false e =
    let l : 3 * 2 ^ 51 * 1 ≤ w * 1 = borrow.Author.Tests.ltb-false (w * 1) (3 * 2 ^ 51 * 1) e in
    ap (λ (z : ℕ). quarter (to_signed 31 (round binary64 false z 1))) (back w) ∙ above_is (w - 3 * 2 ^ 51) (small w hi) ∙ same w l
  where
    back : (w : ℕ) → w * 1 - 3 * 2 ^ 51 * 1 ≡ w - 3 * 2 ^ 51
    back w = omega arith

    small : (w : ℕ) → w ≤ 6442450945 * 2 ^ 20 → w - 3 * 2 ^ 51 < 2 ^ 21
    small w h = omega arith

    same : (w : ℕ) → 3 * 2 ^ 51 * 1 ≤ w * 1 → (w - 3 * 2 ^ 51) % 4 ≡ w % 4
    same w h = omega arith

left : (v : Float) → (W : Whole v) → quarter (to_signed 31 (sub binary64 v to_int)) ≡ W.0 * 2 ^ W.1 % 4
unfolding sub add sum neg
left v (m, a, e, lo, hi) =
    ap (λ (z : Float). quarter (to_signed 31 (sub binary64 z to_int))) e ∙ counted (m * 2 ^ a) lo hi (ltb (m * 2 ^ a * 1) (3 * 2 ^ 51 * 1)) refl

ends : (w : ℕ) → (1074 * 2 ^ 52 + w) % 4 ≡ w % 4
ends w = omega arith

is_whole : (x : Float) → T (due x) → Whole (tmp x)
is_whole x h = let r = tmp_range x h in whole (tmp x) (add-fits binary64 (x *ᶠ INV_PIO2) TO_INT) r.0 r.1

-- ---- the same in the definition's words

pub tmp_no_nan : (x : Float) → T (due x) → T (not (is_nan (tmp x)))
unfolding of_bits
tmp_no_nan x h = no_nan (tmp x) (is_whole x h)

pub tmp_ends : (x : Float) → T (due x) → to_bits binary64 (tmp x) % 4 ≡ turns x
unfolding of_bits
tmp_ends x h =
    let W = is_whole x h in
    ap (λ (k : ℕ). k % 4) (pattern (tmp x) (add-fits binary64 (x *ᶠ INV_PIO2) TO_INT) W) ∙ ends (W.0 * 2 ^ W.1) ∙ sym (left (tmp x) W)
