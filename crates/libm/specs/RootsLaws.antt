-- What hypot gives beside an infinity, acos at 1 (ISO C, Annex F), and what a finite result tells
-- of the arguments. Assumes nothing.
use Rattle.std.specs.Prelude.{◌≡◌, refl, Bool, true, false, ◌||◌, ℕ, ◌/◌, ◌%◌, ◌^◌, ◌<◌, ◌≤◌, ltb, eqb, Float}
use Rattle.std.proofs.Common.{sym, inl, eq-or-lt_of_le, arith, lit≤, lt-ltb, le-ltb, eq-eqb, ne_eqb, ltb-true, ltb-false, eqb-true}
use Rattle.std.proofs.Math.Path.{subst}
use Rattle.std.proofs.Math.Logic.{inr}
use Rattle.std.proofs.Math.Dec.{T}
use Rattle.std.specs.Float.{nan, inf, fin, binary64}
use Rattle.std.specs.Float.Ieee.{sub, div, fits, to_bits, of_bits}
use Rattle.checked.specs.Checked.{is_finite}
use Rattle.checked.specs.Laws.{tells, one, two, alone}
use Rattle.checked.specs.Patterns.{bits}
use Rattle.checked.specs.PatternLaws.{nan_pattern}
use Rattle.checked.specs.Numbers.{literal}
use Rattle.float_bits.specs.FloatBits.{size}
use Rattle.float_bits.specs.Signs.{finite_exponent}
use Rattle.libm.specs.Acos.{acos_far}
use Rattle.libm.specs.Hypot.{greater, lesser, hypot_ordered}
use Rattle.libm.specs.Roots.{acos, hypot}
use Rattle.libm.specs.Computations.{acos_c, hypot_c}

-- the infinity's pattern is the greater one, and its exponent is all ones
beside : (b : ℕ) → b / 2 ^ 52 < 2047 → hypot_ordered 0x7ff00000_00000000 b ≡ inf false
unfolding hypot_ordered of_bits
beside b h = simp (ne_eqb (b / 2 ^ 52) 2047 (other (b / 2 ^ 52) h))
  where
    other : (k : ℕ) → k < 2047 → k ≡ 2047 → ⊥
    other k h e = omega arith

first : (b : ℕ) → b / 2 ^ 52 < 2047 → hypot_ordered (greater 0x7ff00000_00000000 b) (lesser 0x7ff00000_00000000 b) ≡ inf false
unfolding greater lesser
first b h = simp (le-ltb 0x7ff00000_00000000 b (under b h)) (beside b h)
  where
    under : (b : ℕ) → b / 2 ^ 52 < 2047 → b ≤ 0x7ff00000_00000000
    under b h = omega arith

second : (b : ℕ) → b / 2 ^ 52 < 2047 → hypot_ordered (greater b 0x7ff00000_00000000) (lesser b 0x7ff00000_00000000) ≡ inf false
unfolding greater lesser
second b h = simp (lt-ltb b 0x7ff00000_00000000 (under b h)) (beside b h)
  where
    under : (b : ℕ) → b / 2 ^ 52 < 2047 → b < 0x7ff00000_00000000
    under b h = omega arith

-- whatever the other side is, a NaN too
pub infinite_first : (s : Bool) (y : Float) → T (fits binary64 y) → hypot (inf s) y ≡ inf false
unfolding hypot to_bits of_bits greater lesser hypot_ordered
infinite_first true nan F = refl
infinite_first false nan F = refl
infinite_first true (inf true) F = refl
infinite_first true (inf false) F = refl
infinite_first false (inf true) F = refl
infinite_first false (inf false) F = refl
infinite_first true (fin t n d) F = first (size (fin t n d)) (finite_exponent t n d F)
infinite_first false (fin t n d) F = first (size (fin t n d)) (finite_exponent t n d F)

pub infinite_second : (x : Float) (s : Bool) → T (fits binary64 x) → hypot x (inf s) ≡ inf false
unfolding hypot to_bits of_bits greater lesser hypot_ordered
infinite_second nan true F = refl
infinite_second nan false F = refl
infinite_second (inf true) true F = refl
infinite_second (inf true) false F = refl
infinite_second (inf false) true F = refl
infinite_second (inf false) false F = refl
infinite_second (fin t n d) true F = second (size (fin t n d)) (finite_exponent t n d F)
infinite_second (fin t n d) false F = second (size (fin t n d)) (finite_exponent t n d F)

-- ---- 1 is the cosine of +0

pub acos_one : acos (literal 0x3ff00000_00000000) ≡ literal 0
unfolding acos acos_far to_bits of_bits
acos_one = refl

-- ---- a hypotenuse is finite only where both sides are: a NaN or an infinity beside any number gives one of them

-- a pattern from the infinity's up is no number's
high_pattern : (b : ℕ) → 0x7ff00000_00000000 ≤ b → b < 2 ^ 63 → T (is_finite (literal b)) → ⊥
high_pattern b h k = elim (eq-or-lt_of_le h) [
  | inl e ↦ λ t. unfold is_finite of_bits in subst (λ (n : ℕ). T (is_finite (literal n))) (sym e) t
  | inr l ↦ λ t. unfold is_finite in subst (λ (v : Float). T (is_finite v)) (sym (nan_pattern b (own b l k))) t
]
  where
    own : (b : ℕ) → 0x7ff00000_00000000 < b → b < 2 ^ 63 → 0x7ff00000_00000000 < b % 2 ^ 63
    own b h k = omega arith

-- with such a pattern for the first of the two
ordered : (u v : ℕ) → u < 2 ^ 63 → v < 2 ^ 63 → 0x7ff00000_00000000 ≤ u → T (is_finite (hypot_ordered u v)) → ⊥
unfolding hypot_ordered
ordered u v M N h t = by (eqb (v / 2 ^ 52) 2047) refl
  where
    from : (v : ℕ) → v / 2 ^ 52 ≡ 2047 → 0x7ff00000_00000000 ≤ v
    from v e = omega arith

    field : (u : ℕ) → u < 2 ^ 63 → 0x7ff00000_00000000 ≤ u → u / 2 ^ 52 ≡ 2047
    field u k h = omega arith

    by : (b : Bool) → eqb (v / 2 ^ 52) 2047 ≡ b → ⊥
    by true e = high_pattern v (from v (eqb-true (v / 2 ^ 52) 2047 e)) N (simp e at t)
    by false e = high_pattern u h M (simp (e, eq-eqb (u / 2 ^ 52) 2047 (field u M h)) at t)

sides : (p q : ℕ) → p < 2 ^ 63 → q < 2 ^ 63 → 0x7ff00000_00000000 ≤ p → T (is_finite (hypot_ordered (greater p q) (lesser p q))) → ⊥
unfolding greater lesser
sides p q P Q h t = by (ltb p q) refl
  where
    more : (p q : ℕ) → 0x7ff00000_00000000 ≤ p → p < q → 0x7ff00000_00000000 ≤ q
    more p q h l = omega arith

    by : (b : Bool) → ltb p q ≡ b → ⊥
    by true e = ordered q p Q P (more p q h (ltb-true p q e)) (simp e at t)
    by false e = ordered p q P Q h (simp e at t)

turned : (p q : ℕ) → p < 2 ^ 63 → q < 2 ^ 63 → 0x7ff00000_00000000 ≤ q → T (is_finite (hypot_ordered (greater p q) (lesser p q))) → ⊥
unfolding greater lesser
turned p q P Q h t = by (ltb p q) refl
  where
    more : (p q : ℕ) → 0x7ff00000_00000000 ≤ q → q ≤ p → 0x7ff00000_00000000 ≤ p
    more p q h l = omega arith

    by : (b : Bool) → ltb p q ≡ b → ⊥
    by true e = ordered q p Q P h (simp e at t)
    by false e = ordered p q P Q (more p q h (ltb-false p q e)) (simp e at t)

size_most : (b : ℕ) → b % 2 ^ 63 < 2 ^ 63
size_most b = omega arith

pub hypot_left : (x y : Float) → T (is_finite (hypot x y)) → T (is_finite x)
unfolding hypot to_bits is_finite
hypot_left nan y h = sides 0x7ff80000_00000000 (size y) (lit≤ tt) (size_most (bits y)) (lit≤ tt) h
hypot_left (inf true) y h = sides 0x7ff00000_00000000 (size y) (lit≤ tt) (size_most (bits y)) (lit≤ tt) h
hypot_left (inf false) y h = sides 0x7ff00000_00000000 (size y) (lit≤ tt) (size_most (bits y)) (lit≤ tt) h
hypot_left (fin s m e) y h = tt

pub hypot_right : (x y : Float) → T (is_finite (hypot x y)) → T (is_finite y)
unfolding hypot to_bits is_finite
hypot_right x nan h = turned (size x) 0x7ff80000_00000000 (size_most (bits x)) (lit≤ tt) (lit≤ tt) h
hypot_right x (inf true) h = turned (size x) 0x7ff00000_00000000 (size_most (bits x)) (lit≤ tt) (lit≤ tt) h
hypot_right x (inf false) h = turned (size x) 0x7ff00000_00000000 (size_most (bits x)) (lit≤ tt) (lit≤ tt) h
hypot_right x (fin s m e) h = tt

pub hypot_tells : (x y : Float) (p : Bool) → tells (is_finite (hypot x y)) p ≡ (tells (is_finite x) p || (tells (is_finite y) p || tells (is_finite (alone (hypot x y))) p))
unfolding alone
hypot_tells x y p = two (is_finite (hypot x y)) (is_finite x) (is_finite y) p (hypot_left x y) (hypot_right x y)

-- ---- an angle that has a cosine is that of a finite one

pub acos_under : (x : Float) → T (is_finite (acos x)) → T (is_finite x)
unfolding acos acos_far is_finite sub div to_bits of_bits
acos_under nan h = h
acos_under (inf true) h = h
acos_under (inf false) h = h
acos_under (fin s m e) h = tt

pub acos_tells : (x : Float) (p : Bool) → tells (is_finite (acos x)) p ≡ (tells (is_finite x) p || tells (is_finite (alone (acos x))) p)
unfolding alone
acos_tells x p = one (is_finite (acos x)) (is_finite x) p (acos_under x)

pub ruleset rules = (acos_c, hypot_c, acos_tells, hypot_tells)
