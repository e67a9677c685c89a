-- Laws of boxes that are widened by points, and of box calls on a box free of NaN.
use Rattle.std.specs.Prelude.{ℕ, ◌≡◌, refl, Bool, true, false, cond, not, ◌&&◌, T, Float}
use Rattle.std.proofs.Common.{sym, subst, ⊎_elim, arith}
use mathlib.Core.List.Memᴰ
use mathlib.Core.List.{List, [], ◌∷◌, ◌++◌, map, Memᴰ}
use Rattle.std.specs.Float.{nan, inf, fin}
use Rattle.std.specs.Float.Ieee.{is_nan}
use Rattle.std.specs.Float.Ieee.Bits.{is_true}
use Rattle.std.specs.Float.Ieee.Fits.{and_i, and_l, and_r}
use Rattle.order.specs.Order.{Number}
use Rattle.order.specs.Least.{least, greatest}
use Rattle.order.specs.Extremes.{Least, Greatest, fold, AllNumbers}
use Rattle.order.proofs.Extremes.{lowest, highest}
use Rattle.vectors.specs.declared.Vec3.{Vec3}
use Rattle.vectors.specs.Vectors.{is_finite3, nines}
use Rattle.checked.specs.Refusals.{BAD_BOX_OR_SUMS, NOT_FINITE}
use Rattle.checked.specs.Checked.{Checked, refused, settled, is_finite, first, given}
use Rattle.checked.specs.Tests.{fails, ◌or◌, passing}
use Rattle.checked.specs.TestsLaws.{passing_some, fails_none, fails_some}
use Rattle.checked.specs.Laws.{first_zero, zero_first, first_some, first_none}
use Rattle.boxes.specs.Boxes.{Axis, X, Y, Z, at, lesser, greater, widened, widened_by, numbers, free, empty, box_call, ◌⧺◌, AllFinite, Sound}
use Rattle.boxes.specs.declared.Bounds.{Bounds}

-- first the points of one list, then those of the other
pub widened_append : (b : Bounds) (ps qs : List Vec3) → widened_by b (ps ++ qs) ≡ widened_by (widened_by b ps) qs
unfolding widened_by
widened_append b [] qs = refl
widened_append b (p ∷ ps) qs = widened_append (widened b p) ps qs

-- by no point, and by one and the rest
pub widened_none : (b : Bounds) → widened_by b [] ≡ b
unfolding widened_by
widened_none b = refl

pub widened_cons : (b : Bounds) (p : Vec3) (ps : List Vec3) → widened_by b (p ∷ ps) ≡ widened_by (widened b p) ps
unfolding widened_by
widened_cons b p ps = refl

-- ---- a coordinate of the box is the least, or the greatest, of that coordinate's numbers
pub low_at : (k : Axis) (b : Bounds) (ps : List Vec3) → at k (widened_by b ps).low ≡ fold least (at k b.low) (map (at k) ps)
unfolding widened_by widened lesser fold
low_at k b [] = refl
low_at X b (p ∷ ps) = low_at X (widened b p) ps
low_at Y b (p ∷ ps) = low_at Y (widened b p) ps
low_at Z b (p ∷ ps) = low_at Z (widened b p) ps

pub high_at : (k : Axis) (b : Bounds) (ps : List Vec3) → at k (widened_by b ps).high ≡ fold greatest (at k b.high) (map (at k) ps)
unfolding widened_by widened greater fold
high_at k b [] = refl
high_at X b (p ∷ ps) = high_at X (widened b p) ps
high_at Y b (p ∷ ps) = high_at Y (widened b p) ps
high_at Z b (p ∷ ps) = high_at Z (widened b p) ps

-- ---- free of NaN
pub number_at : (k : Axis) (v : Vec3) → T (numbers v) → Number (at k v)
unfolding numbers
number_at X v h = and_l (not (is_nan v.x)) (not (is_nan v.y) && not (is_nan v.z)) h
number_at Y v h = and_l (not (is_nan v.y)) (not (is_nan v.z)) (and_r (not (is_nan v.x)) (not (is_nan v.y) && not (is_nan v.z)) h)
number_at Z v h = and_r (not (is_nan v.y)) (not (is_nan v.z)) (and_r (not (is_nan v.x)) (not (is_nan v.y) && not (is_nan v.z)) h)

pub numbers_of : (v : Vec3) → ((k : Axis) → Number (at k v)) → T (numbers v)
unfolding numbers
numbers_of v h = and_i (not (is_nan v.x)) (not (is_nan v.y) && not (is_nan v.z)) (h X) (and_i (not (is_nan v.y)) (not (is_nan v.z)) (h Y) (h Z))

pub free_low : (b : Bounds) → T (free b) → T (numbers b.low)
unfolding free
free_low b F = and_l (numbers b.low) (numbers b.high) F

pub free_high : (b : Bounds) → T (free b) → T (numbers b.high)
unfolding free
free_high b F = and_r (numbers b.low) (numbers b.high) F

pub empty_free : T (free empty)
unfolding free numbers is_nan
empty_free = tt

-- a finite number is no NaN
finite_number : (x : Float) → T (is_finite x) → Number x
unfolding is_finite is_nan
finite_number nan h = absurd h
finite_number (inf s) h = tt
finite_number (fin s m e) h = tt

pub finite_numbers : (v : Vec3) → T (is_finite3 v) → T (numbers v)
unfolding is_finite3
finite_numbers v h = numbers_of v (λ k. finite_number (at k v) (coordinate k))
  where
    coordinate : (k : Axis) → T (is_finite (at k v))
    coordinate X = and_l (is_finite v.x) (is_finite v.y && is_finite v.z) h
    coordinate Y = and_l (is_finite v.y) (is_finite v.z) (and_r (is_finite v.x) (is_finite v.y && is_finite v.z) h)
    coordinate Z = and_r (is_finite v.y) (is_finite v.z) (and_r (is_finite v.x) (is_finite v.y && is_finite v.z) h)

-- ---- a box free of NaN, widened by points free of NaN
abbrev pub NumbersAll : List Vec3 → Type 0
NumbersAll ps = (p : Vec3) → Memᴰ p ps → T (numbers p)

map_numbers : (k : Axis) (ps : List Vec3) → NumbersAll ps → AllNumbers (map (at k) ps)
map_numbers k [] all x m = absurd (Memᴰ.not-nil m)
map_numbers k (p ∷ ps) all x m = ⊎_elim
    (λ (e : x ≡ at k p). subst Number (sym e) (number_at k p (all p (Memᴰ.head refl))))
    (λ (n : Memᴰ x (map (at k) ps)). map_numbers k ps (λ q l. all q (Memᴰ.tail l)) x n)
    (Memᴰ.cases_cons m)

cons_numbers : (a : Float) (xs : List Float) → Number a → AllNumbers xs → AllNumbers (a ∷ xs)
cons_numbers a xs A all x m = ⊎_elim (λ (e : x ≡ a). subst Number (sym e) A) (λ (n : Memᴰ x xs). all x n) (Memᴰ.cases_cons m)

module _ (b : Bounds) (ps : List Vec3) (F : T (free b)) (all : NumbersAll ps) where
  pub widened_low : (k : Axis) → Least (at k (widened_by b ps).low) (at k b.low ∷ map (at k) ps)
  widened_low k = rw (low_at k b ps) (lowest (at k b.low) (map (at k) ps) (number_at k b.low (free_low b F)) (map_numbers k ps all))

  pub widened_high : (k : Axis) → Greatest (at k (widened_by b ps).high) (at k b.high ∷ map (at k) ps)
  widened_high k = rw (high_at k b ps) (highest (at k b.high) (map (at k) ps) (number_at k b.high (free_high b F)) (map_numbers k ps all))

  pub widened_free : T (free (widened_by b ps))
  unfolding free
  widened_free =
      and_i (numbers (widened_by b ps).low) (numbers (widened_by b ps).high)
      (numbers_of (widened_by b ps).low (λ k. cons_numbers (at k b.low) (map (at k) ps) (number_at k b.low (free_low b F)) (map_numbers k ps all) (at k (widened_by b ps).low) (widened_low k).among))
      (numbers_of (widened_by b ps).high (λ k. cons_numbers (at k b.high) (map (at k) ps) (number_at k b.high (free_high b F)) (map_numbers k ps all) (at k (widened_by b ps).high) (widened_high k).among))

-- ---- box calls
-- written out, for rewriting
pub call_is : (h : ℕ) (c : Checked (List Vec3)) (b : Bounds) → box_call h c b ≡ passing (h or fails BAD_BOX_OR_SUMS (free b)) (settled c.refusal (widened_by b c.value))
unfolding box_call
call_is h c b = simp first_zero

pub ruleset rules = (call_is, ◌⧺◌, widened_append, widened_none, widened_cons)

-- on a box free of NaN
pub on_free : (b : Bounds) (h : ℕ) (c : Checked (List Vec3)) → T (free b) → box_call h c b ≡ passing h (settled c.refusal (widened_by b c.value))
on_free b h c F = simp (call_is, is_true (free b) F, fails_none, first_zero)

-- whatever the box, what was handed in with the edge is refused first; then a box that holds a NaN
pub on_handed : (b : Bounds) (h : ℕ) (c : Checked (List Vec3)) → (h ≡ 0 → ⊥) → box_call h c b ≡ refused h
on_handed b h c some = rw (call_is h c b, first_some h (fails BAD_BOX_OR_SUMS (free b)) some) (passing_some h _ some)

pub on_nan : (b : Bounds) (c : Checked (List Vec3)) → free b ≡ false → box_call 0 c b ≡ refused BAD_BOX_OR_SUMS
unfolding passing
on_nan b c h = simp (call_is, h, fails_some, zero_first)

-- ---- computations whose points are finite where no refusal is met
pub nines_finite : (p : Vec3) → nines p ≡ 0 → T (is_finite3 p)
unfolding nines
nines_finite p h = cases (is_finite3 p) h
  where
    cases : (t : Bool) → cond t 0 NOT_FINITE ≡ 0 → T t
    cases true h = tt
    cases false h = absurd (omega arith)

pub finite_none : AllFinite []
finite_none p m = absurd (Memᴰ.not-nil m)

pub finite_cons : (p : Vec3) (ps : List Vec3) → T (is_finite3 p) → AllFinite ps → AllFinite (p ∷ ps)
finite_cons p ps P all q m = ⊎_elim (λ (e : q ≡ p). subst (λ (v : Vec3). T (is_finite3 v)) (sym e) P) (λ (n : Memᴰ q ps). all q n) (Memᴰ.cases_cons m)

pub finite_append : (ps qs : List Vec3) → AllFinite ps → AllFinite qs → AllFinite (ps ++ qs)
finite_append ps qs P Q p m = ⊎_elim (λ (l : Memᴰ p ps). P p l) (λ (r : Memᴰ p qs). Q p r) (Memᴰ.append_cases ps m)

pub sound_none : Sound (given [])
sound_none h = finite_none

-- what met a refusal r, or none, before it
pub sound_then : (r : ℕ) (c : Checked (List Vec3)) → (r ≡ 0 → Sound c) → Sound (record { refusal = first r c.refusal; value = c.value })
sound_then r c s h = let none = first_none r c.refusal h in s none.0 none.1

pub sound_append : (m n : Checked (List Vec3)) → Sound m → Sound n → Sound (m ⧺ n)
sound_append m n M N h =
    let left = first_none m.refusal (first n.refusal 0) h in
    let right = first_none n.refusal 0 left.1 in
    finite_append m.value n.value (M left.0) (N right.0)

pub sound_either : (t : Bool) (m n : Checked (List Vec3)) → Sound m → Sound n → Sound (cond t m n)
sound_either true m n M N = M
sound_either false m n M N = N
