-- Laws of refusals met in order, and of numbers that are not finite. A number is noted where it is tried for that: a definition notes every
-- number, and these laws tell which notes the code may leave out.
use Rattle.std.specs.Prelude.{ℕ, zero, suc, ◌≡◌, refl, eqb, T, pos, Float}
use Rattle.std.proofs.Common.{sym, subst, arith}
use mathlib.Core.Bool.{Bool, true, false, cond, ◌&&◌, ◌||◌}
use Rattle.std.specs.Float.{nan, inf, fin, Format, binary64}
use Rattle.std.specs.Float.Ieee.{add, sub, mul, div, neg, le, of_bits}
use Rattle.checked.specs.Refusals.{NOT_FINITE}
use Rattle.checked.specs.Checked.{Checked, first, nine, is_finite, within, limit, Due, due, refused, settled, ◌⊕◌, ◌⊖◌, ◌⊗◌, ◌⊘◌, minus}

pub first_assoc : (a b c : ℕ) → first (first a b) c ≡ first a (first b c)
unfolding first
first_assoc zero b c = refl
first_assoc (suc a) b c = refl

pub zero_first : (a : ℕ) → first 0 a ≡ a
unfolding first
zero_first a = refl

pub first_zero : (a : ℕ) → first a 0 ≡ a
unfolding first
first_zero zero = refl
first_zero (suc a) = refl

pub first_some : (a b : ℕ) → (a ≡ 0 → ⊥) → first a b ≡ a
unfolding first
first_some zero b h = absurd (h refl)
first_some (suc a) b h = refl

-- the same refusal twice is that refusal
pub first_same : (a : ℕ) → first a a ≡ a
unfolding first
first_same zero = refl
first_same (suc a) = refl

-- no refusal is met where none is met on either side
pub first_none : (a b : ℕ) → first a b ≡ 0 → (a ≡ 0) × (b ≡ 0)
unfolding first
first_none zero b h = (refl, h)
first_none (suc a) b h = absurd (omega arith)

-- what a computation with no refusal is due to answer
pub settled_none : {A : Type 0} (a : A) → settled 0 a ≡ due a
unfolding settled
settled_none a = refl

-- a refusal of a number that is not finite, met where b is false
unfoldable pub ok : Bool → ℕ
ok b = cond b 0 NOT_FINITE

pub nine_ok : (x : Float) → nine x ≡ ok (is_finite x)
unfolding nine ok
nine_ok x = refl

pub ok_and : (p q : Bool) → first (ok p) (ok q) ≡ ok (p && q)
unfolding ok first
ok_and true q = refl
ok_and false q = refl

-- p holds where u does, as a test: where u says that a number is finite, so does p of another
unfoldable pub tells : Bool → Bool → Bool
tells u p = cond u p true

pub under : (p u : Bool) → (T u → T p) → tells u p ≡ true
unfolding tells
under p false h = refl
under true true h = refl
under false true h = absurd (h tt)

pub holds : (p u : Bool) → tells u p ≡ true → T u → T p
unfolding tells
holds p false e h = absurd h
holds true true e h = tt
holds false true e h = absurd (subst T (sym e) tt)

-- what need not be noted, since a number that is finite only where it is finite is noted next
pub absorbs : (x u : Float) (r : ℕ) → tells (is_finite u) (is_finite x) ≡ true → first (nine x) (first (nine u) r) ≡ first (nine u) r
unfolding nine first
absorbs x u r h = cases (is_finite x) (is_finite u) (holds (is_finite x) (is_finite u) h)
  where
    cases : (p q : Bool) → (T q → T p) → first (cond p 0 NOT_FINITE) (first (cond q 0 NOT_FINITE) r) ≡ first (cond q 0 NOT_FINITE) r
    cases true q h = refl
    cases false true h = absurd (h tt)
    cases false false h = refl

pub ends : (x u : Float) → tells (is_finite u) (is_finite x) ≡ true → first (nine x) (nine u) ≡ nine u
ends x u h = simp first_zero at (absorbs x u 0 h)

-- two notes may change places
pub swap : (x y : Float) (r : ℕ) → first (nine x) (first (nine y) r) ≡ first (nine y) (first (nine x) r)
unfolding nine first
swap x y r = cases (is_finite x) (is_finite y)
  where
    cases : (p q : Bool) → first (cond p 0 NOT_FINITE) (first (cond q 0 NOT_FINITE) r) ≡ first (cond q 0 NOT_FINITE) (first (cond p 0 NOT_FINITE) r)
    cases true q = refl
    cases false true = refl
    cases false false = refl

-- what need not be noted, by tests in place of numbers: p holds where q, noted next, does
pub absorb : (p q : Bool) → (T q → T p) → first (ok p) (ok q) ≡ ok q
unfolding ok first
absorb true q h = refl
absorb false true h = absurd (h tt)
absorb false false h = refl

pub itself : (p : Bool) → tells p p ≡ true
itself p = under p p (λ h. h)

pub or_true : (x : Bool) → (x || true) ≡ true
or_true true = refl
or_true false = refl

-- the number u, of which no operation is seen
unfoldable pub alone : Float → Float
alone u = u

pub alone_tells : (u : Float) → tells (is_finite (alone u)) (is_finite u) ≡ true
unfolding alone
alone_tells u = itself (is_finite u)

-- what an operation's result tells is what its operands tell, and what it tells of itself
pub two : (u a b p : Bool) → (T u → T a) → (T u → T b) → tells u p ≡ (tells a p || (tells b p || tells u p))
unfolding tells
two true true true true f g = refl
two true true true false f g = refl
two true true false p f g = absurd (g tt)
two true false b p f g = absurd (f tt)
two false a b p f g = sym (ors (tells a p) (tells b p))
  where
    ors : (x y : Bool) → (x || (y || true)) ≡ true
    ors true y = refl
    ors false true = refl
    ors false false = refl

pub one : (u a p : Bool) → (T u → T a) → tells u p ≡ (tells a p || tells u p)
unfolding tells
one true true true f = refl
one true true false f = refl
one true false p f = absurd (f tt)
one false a p f = sym (or_true (tells a p))

pub add_left : (f : Format) (x y : Float) → T (is_finite (add f x y)) → T (is_finite x)
unfolding add is_finite
add_left f nan y h = h
add_left f (inf s) nan h = h
add_left f (inf true) (inf true) h = h
add_left f (inf true) (inf false) h = h
add_left f (inf false) (inf true) h = h
add_left f (inf false) (inf false) h = h
add_left f (inf s) (fin t n d) h = h
add_left f (fin s m e) y h = tt

pub add_right : (f : Format) (x y : Float) → T (is_finite (add f x y)) → T (is_finite y)
unfolding add is_finite
add_right f nan y h = absurd h
add_right f (inf s) nan h = h
add_right f (inf s) (inf t) h = both s t h
  where
    both : (s t : Bool) → T (is_finite (cond (mathlib.Core.Bool.beq s t) (inf s) nan)) → T (is_finite (inf t))
    both true true h = h
    both true false h = h
    both false true h = h
    both false false h = h
add_right f (inf s) (fin t n d) h = tt
add_right f (fin s m e) nan h = h
add_right f (fin s m e) (inf t) h = h
add_right f (fin s m e) (fin t n d) h = tt

pub neg_under : (x : Float) → T (is_finite (neg x)) → T (is_finite x)
unfolding neg is_finite
neg_under nan h = h
neg_under (inf s) h = h
neg_under (fin s m e) h = tt

pub sub_left : (f : Format) (x y : Float) → T (is_finite (sub f x y)) → T (is_finite x)
unfolding sub
sub_left f x y h = add_left f x (neg y) h

pub sub_right : (f : Format) (x y : Float) → T (is_finite (sub f x y)) → T (is_finite y)
unfolding sub
sub_right f x y h = neg_under y (add_right f x (neg y) h)

no : (b : Bool) (s : Bool) → T (is_finite (cond b nan (inf s))) → ⊥
unfolding is_finite
no true s h = h
no false s h = h

pub mul_left : (f : Format) (x y : Float) → T (is_finite (mul f x y)) → T (is_finite x)
unfolding mul is_finite
mul_left f nan y h = h
mul_left f (inf s) nan h = h
mul_left f (inf s) (inf t) h = h
mul_left f (inf s) (fin t n d) h = absurd (no (eqb n 0) _ h)
mul_left f (fin s m e) y h = tt

pub mul_right : (f : Format) (x y : Float) → T (is_finite (mul f x y)) → T (is_finite y)
unfolding mul is_finite
mul_right f nan y h = absurd h
mul_right f (inf s) nan h = h
mul_right f (inf s) (inf t) h = h
mul_right f (inf s) (fin t n d) h = tt
mul_right f (fin s m e) nan h = h
mul_right f (fin s m e) (inf t) h = absurd (no (eqb m 0) _ h)
mul_right f (fin s m e) (fin t n d) h = tt

-- of a quotient only the dividend: 1 / inf is 0, so a divisor is noted by itself
pub div_left : (f : Format) (x y : Float) → T (is_finite (div f x y)) → T (is_finite x)
unfolding div is_finite
div_left f nan y h = h
div_left f (inf s) nan h = h
div_left f (inf s) (inf t) h = h
div_left f (inf s) (fin t n d) h = h
div_left f (fin s m e) y h = tt

pub over_infinity : is_finite (div binary64 (fin false 1 (pos 0)) (inf false)) ≡ true
unfolding div is_finite
over_infinity = refl

pub add_tells : (x y : Float) (p : Bool) → tells (is_finite (add binary64 x y)) p ≡ (tells (is_finite x) p || (tells (is_finite y) p || tells (is_finite (alone (add binary64 x y))) p))
unfolding alone
add_tells x y p = two (is_finite (add binary64 x y)) (is_finite x) (is_finite y) p (add_left binary64 x y) (add_right binary64 x y)

pub sub_tells : (x y : Float) (p : Bool) → tells (is_finite (sub binary64 x y)) p ≡ (tells (is_finite x) p || (tells (is_finite y) p || tells (is_finite (alone (sub binary64 x y))) p))
unfolding alone
sub_tells x y p = two (is_finite (sub binary64 x y)) (is_finite x) (is_finite y) p (sub_left binary64 x y) (sub_right binary64 x y)

pub mul_tells : (x y : Float) (p : Bool) → tells (is_finite (mul binary64 x y)) p ≡ (tells (is_finite x) p || (tells (is_finite y) p || tells (is_finite (alone (mul binary64 x y))) p))
unfolding alone
mul_tells x y p = two (is_finite (mul binary64 x y)) (is_finite x) (is_finite y) p (mul_left binary64 x y) (mul_right binary64 x y)

pub neg_tells : (x : Float) (p : Bool) → tells (is_finite (neg x)) p ≡ (tells (is_finite x) p || tells (is_finite (alone (neg x))) p)
unfolding alone
neg_tells x p = one (is_finite (neg x)) (is_finite x) p (neg_under x)

pub div_tells : (x y : Float) (p : Bool) → tells (is_finite (div binary64 x y)) p ≡ (tells (is_finite x) p || tells (is_finite (alone (div binary64 x y))) p)
unfolding alone
div_tells x y p = one (is_finite (div binary64 x y)) (is_finite x) p (div_left binary64 x y)

-- a number that passes the test of what is handed in is finite
pub within_finite : (x : Float) → T (within x) → T (is_finite x)
unfolding within is_finite le neg of_bits
within_finite nan h = h
within_finite (inf true) h = h
within_finite (inf false) h = h
within_finite (fin s m e) h = tt

-- a chain of refusals, bracketed to the right, without its zeros
pub ruleset opened = (◌⊕◌, ◌⊖◌, ◌⊗◌, ◌⊘◌, minus, first_assoc, first_zero, zero_first, settled_none)

-- and without the notes that the next one makes needless
pub ruleset absorbed = (absorbs, ends, itself, or_true, alone_tells, add_tells, sub_tells, mul_tells, div_tells, neg_tells)

pub ruleset rules = (opened, absorbed)
