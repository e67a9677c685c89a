-- Laws of the vectors' operations: the refusal of each is that of what it gives, and which notes that makes needless.
use Rattle.std.specs.Prelude.{ℕ, ◌≡◌, refl, Bool, true, false, ◌&&◌, ◌||◌, T, Float}
use Rattle.std.specs.Float.{binary64}
use Rattle.std.specs.Float.Ieee.{add, mul}
use Rattle.vectors.specs.declared.Vec3.{Vec3}
use Rattle.checked.specs.Checked.{first, nine, is_finite}
use Rattle.checked.specs.Laws.{tells, itself, one, two, under, holds, alone, first_zero, ok, nine_ok, ok_and, add_left, add_right, sub_left, sub_right, mul_left, mul_right, neg_under, rules as checked_rules}
use Rattle.vectors.specs.Vectors.{is_finite3, nines, plus_c, minus_c, times_c, neg_c, cross_c, dot_c, ◌⊞◌, ◌⊟◌, ◌⊠◌, ◌⊡◌, ◌⨯◌}

pub nines_ok : (v : Vec3) → nines v ≡ ok (is_finite3 v)
unfolding nines ok
nines_ok v = refl

pub nines_are : (v : Vec3) → nines v ≡ first (nine v.x) (first (nine v.y) (nine v.z))
unfolding is_finite3
nines_are v = simp (nines_ok, nine_ok, ok_and)

-- three numbers are finite, or a vector
all : (v : Vec3) → T (is_finite v.x) → T (is_finite v.y) → T (is_finite v.z) → T (is_finite3 v)
unfolding is_finite3
all v a b c = three (is_finite v.x) (is_finite v.y) (is_finite v.z) a b c
  where
    three : (p q r : Bool) → T p → T q → T r → T (p && (q && r))
    three true true true a b c = tt
    three true true false a b c = absurd c
    three true false r a b c = absurd b
    three false q r a b c = absurd a

the_x : (v : Vec3) → T (is_finite3 v) → T (is_finite v.x)
unfolding is_finite3
the_x v h = one (is_finite v.x) (is_finite v.y) (is_finite v.z) h
  where
    one : (p q r : Bool) → T (p && (q && r)) → T p
    one true q r h = tt
    one false q r h = absurd h

the_y : (v : Vec3) → T (is_finite3 v) → T (is_finite v.y)
unfolding is_finite3
the_y v h = one (is_finite v.x) (is_finite v.y) (is_finite v.z) h
  where
    one : (p q r : Bool) → T (p && (q && r)) → T q
    one true true r h = tt
    one true false r h = absurd h
    one false q r h = absurd h

the_z : (v : Vec3) → T (is_finite3 v) → T (is_finite v.z)
unfolding is_finite3
the_z v h = one (is_finite v.x) (is_finite v.y) (is_finite v.z) h
  where
    one : (p q r : Bool) → T (p && (q && r)) → T r
    one true true true h = tt
    one true true false h = absurd h
    one true false r h = absurd h
    one false q r h = absurd h

-- as `absorbs` and `ends` of crate checked, for a vector before a number, a number before a vector, and two vectors
absorb : (p q : Bool) (r : ℕ) → (T q → T p) → first (ok p) (first (ok q) r) ≡ first (ok q) r
unfolding ok first
absorb true q r h = refl
absorb false true r h = absurd (h tt)
absorb false false r h = refl

pub absorbs_vn : (v : Vec3) (u : Float) (r : ℕ) → tells (is_finite u) (is_finite3 v) ≡ true → first (nines v) (first (nine u) r) ≡ first (nine u) r
absorbs_vn v u r h = simp (nines_ok, nine_ok) (absorb (is_finite3 v) (is_finite u) r (holds (is_finite3 v) (is_finite u) h))

pub absorbs_nv : (x : Float) (u : Vec3) (r : ℕ) → tells (is_finite3 u) (is_finite x) ≡ true → first (nine x) (first (nines u) r) ≡ first (nines u) r
absorbs_nv x u r h = simp (nines_ok, nine_ok) (absorb (is_finite x) (is_finite3 u) r (holds (is_finite x) (is_finite3 u) h))

pub absorbs_vv : (v u : Vec3) (r : ℕ) → tells (is_finite3 u) (is_finite3 v) ≡ true → first (nines v) (first (nines u) r) ≡ first (nines u) r
absorbs_vv v u r h = simp nines_ok (absorb (is_finite3 v) (is_finite3 u) r (holds (is_finite3 v) (is_finite3 u) h))

pub ends_vn : (v : Vec3) (u : Float) → tells (is_finite u) (is_finite3 v) ≡ true → first (nines v) (nine u) ≡ nine u
ends_vn v u h = simp first_zero at (absorbs_vn v u 0 h)

pub ends_nv : (x : Float) (u : Vec3) → tells (is_finite3 u) (is_finite x) ≡ true → first (nine x) (nines u) ≡ nines u
ends_nv x u h = simp first_zero at (absorbs_nv x u 0 h)

pub ends_vv : (v u : Vec3) → tells (is_finite3 u) (is_finite3 v) ≡ true → first (nines v) (nines u) ≡ nines u
ends_vv v u h = simp first_zero at (absorbs_vv v u 0 h)

pub plus_nine : (a b : Vec3) → (plus_c a b).refusal ≡ nines (plus_c a b).value
unfolding plus_c is_finite3
plus_nine a b = simp (nines_ok, checked_rules, nine_ok, ok_and)

pub minus_nine : (a b : Vec3) → (minus_c a b).refusal ≡ nines (minus_c a b).value
unfolding minus_c is_finite3
minus_nine a b = simp (nines_ok, checked_rules, nine_ok, ok_and)

pub times_nine : (v : Vec3) (k : Float) → (times_c v k).refusal ≡ nines (times_c v k).value
unfolding times_c is_finite3
times_nine v k = simp (nines_ok, checked_rules, nine_ok, ok_and)

pub neg_nine : (v : Vec3) → (neg_c v).refusal ≡ nines (neg_c v).value
unfolding neg_c is_finite3
neg_nine v = simp (nines_ok, checked_rules, nine_ok, ok_and)

pub cross_nine : (a b : Vec3) → (cross_c a b).refusal ≡ nines (cross_c a b).value
unfolding cross_c is_finite3
cross_nine a b = simp checked_rules (simp (nines_ok, nine_ok, ok_and))

pub dot_nine : (a b : Vec3) → (dot_c a b).refusal ≡ nine (dot_c a b).value
unfolding dot_c
dot_nine a b = simp checked_rules

pub plus_left : (a b : Vec3) → T (is_finite3 (plus_c a b).value) → T (is_finite3 a)
unfolding plus_c
plus_left a b h = all a (add_left binary64 a.x b.x (the_x (plus_c a b).value h)) (add_left binary64 a.y b.y (the_y (plus_c a b).value h)) (add_left binary64 a.z b.z (the_z (plus_c a b).value h))

pub plus_right : (a b : Vec3) → T (is_finite3 (plus_c a b).value) → T (is_finite3 b)
unfolding plus_c
plus_right a b h = all b (add_right binary64 a.x b.x (the_x (plus_c a b).value h)) (add_right binary64 a.y b.y (the_y (plus_c a b).value h)) (add_right binary64 a.z b.z (the_z (plus_c a b).value h))

pub minus_left : (a b : Vec3) → T (is_finite3 (minus_c a b).value) → T (is_finite3 a)
unfolding minus_c
minus_left a b h = all a (sub_left binary64 a.x b.x (the_x (minus_c a b).value h)) (sub_left binary64 a.y b.y (the_y (minus_c a b).value h)) (sub_left binary64 a.z b.z (the_z (minus_c a b).value h))

pub minus_right : (a b : Vec3) → T (is_finite3 (minus_c a b).value) → T (is_finite3 b)
unfolding minus_c
minus_right a b h = all b (sub_right binary64 a.x b.x (the_x (minus_c a b).value h)) (sub_right binary64 a.y b.y (the_y (minus_c a b).value h)) (sub_right binary64 a.z b.z (the_z (minus_c a b).value h))

pub times_left : (v : Vec3) (k : Float) → T (is_finite3 (times_c v k).value) → T (is_finite3 v)
unfolding times_c
times_left v k h = all v (mul_left binary64 v.x k (the_x (times_c v k).value h)) (mul_left binary64 v.y k (the_y (times_c v k).value h)) (mul_left binary64 v.z k (the_z (times_c v k).value h))

pub times_right : (v : Vec3) (k : Float) → T (is_finite3 (times_c v k).value) → T (is_finite k)
unfolding times_c
times_right v k h = mul_right binary64 v.x k (the_x (times_c v k).value h)

pub neg_left : (v : Vec3) → T (is_finite3 (neg_c v).value) → T (is_finite3 v)
unfolding neg_c
neg_left v h = all v (neg_under v.x (the_x (neg_c v).value h)) (neg_under v.y (the_y (neg_c v).value h)) (neg_under v.z (the_z (neg_c v).value h))

pub cross_left : (a b : Vec3) → T (is_finite3 (cross_c a b).value) → T (is_finite3 a)
unfolding cross_c
cross_left a b h = all a (mul_left binary64 a.x b.y (sub_left binary64 (mul binary64 a.x b.y) (mul binary64 a.y b.x) (the_z (cross_c a b).value h))) (mul_left binary64 a.y b.z (sub_left binary64 (mul binary64 a.y b.z) (mul binary64 a.z b.y) (the_x (cross_c a b).value h))) (mul_left binary64 a.z b.y (sub_right binary64 (mul binary64 a.y b.z) (mul binary64 a.z b.y) (the_x (cross_c a b).value h)))

pub cross_right : (a b : Vec3) → T (is_finite3 (cross_c a b).value) → T (is_finite3 b)
unfolding cross_c
cross_right a b h = all b (mul_right binary64 a.z b.x (sub_left binary64 (mul binary64 a.z b.x) (mul binary64 a.x b.z) (the_y (cross_c a b).value h))) (mul_right binary64 a.z b.y (sub_right binary64 (mul binary64 a.y b.z) (mul binary64 a.z b.y) (the_x (cross_c a b).value h))) (mul_right binary64 a.y b.z (sub_left binary64 (mul binary64 a.y b.z) (mul binary64 a.z b.y) (the_x (cross_c a b).value h)))

pub dot_left : (a b : Vec3) → T (is_finite (dot_c a b).value) → T (is_finite3 a)
unfolding dot_c
dot_left a b h =
    let p = mul binary64 a.x b.x in
    let q = mul binary64 a.y b.y in
    let t = mul binary64 a.z b.z in
    let s = add_left binary64 (add binary64 p q) t h in
    all a (mul_left binary64 a.x b.x (add_left binary64 p q s)) (mul_left binary64 a.y b.y (add_right binary64 p q s)) (mul_left binary64 a.z b.z (add_right binary64 (add binary64 p q) t h))

pub dot_right : (a b : Vec3) → T (is_finite (dot_c a b).value) → T (is_finite3 b)
unfolding dot_c
dot_right a b h =
    let p = mul binary64 a.x b.x in
    let q = mul binary64 a.y b.y in
    let t = mul binary64 a.z b.z in
    let s = add_left binary64 (add binary64 p q) t h in
    all b (mul_right binary64 a.x b.x (add_left binary64 p q s)) (mul_right binary64 a.y b.y (add_right binary64 p q s)) (mul_right binary64 a.z b.z (add_right binary64 (add binary64 p q) t h))

-- the vector u, of which no operation is seen
unfoldable pub alone3 : Vec3 → Vec3
alone3 u = u

pub alone3_tells : (u : Vec3) → tells (is_finite3 (alone3 u)) (is_finite3 u) ≡ true
unfolding alone3
alone3_tells u = itself (is_finite3 u)

pub tells_x : (v : Vec3) → tells (is_finite3 v) (is_finite v.x) ≡ true
tells_x v = under (is_finite v.x) (is_finite3 v) (the_x v)

pub tells_y : (v : Vec3) → tells (is_finite3 v) (is_finite v.y) ≡ true
tells_y v = under (is_finite v.y) (is_finite3 v) (the_y v)

pub tells_z : (v : Vec3) → tells (is_finite3 v) (is_finite v.z) ≡ true
tells_z v = under (is_finite v.z) (is_finite3 v) (the_z v)

pub plus_tells : (a b : Vec3) (p : Bool) → tells (is_finite3 (plus_c a b).value) p ≡ (tells (is_finite3 a) p || (tells (is_finite3 b) p || tells (is_finite3 (alone3 (plus_c a b).value)) p))
unfolding alone3
plus_tells a b p = two (is_finite3 (plus_c a b).value) (is_finite3 a) (is_finite3 b) p (plus_left a b) (plus_right a b)

pub minus_tells : (a b : Vec3) (p : Bool) → tells (is_finite3 (minus_c a b).value) p ≡ (tells (is_finite3 a) p || (tells (is_finite3 b) p || tells (is_finite3 (alone3 (minus_c a b).value)) p))
unfolding alone3
minus_tells a b p = two (is_finite3 (minus_c a b).value) (is_finite3 a) (is_finite3 b) p (minus_left a b) (minus_right a b)

pub cross_tells : (a b : Vec3) (p : Bool) → tells (is_finite3 (cross_c a b).value) p ≡ (tells (is_finite3 a) p || (tells (is_finite3 b) p || tells (is_finite3 (alone3 (cross_c a b).value)) p))
unfolding alone3
cross_tells a b p = two (is_finite3 (cross_c a b).value) (is_finite3 a) (is_finite3 b) p (cross_left a b) (cross_right a b)

pub dot_tells : (a b : Vec3) (p : Bool) → tells (is_finite (dot_c a b).value) p ≡ (tells (is_finite3 a) p || (tells (is_finite3 b) p || tells (is_finite (alone (dot_c a b).value)) p))
unfolding alone
dot_tells a b p = two (is_finite (dot_c a b).value) (is_finite3 a) (is_finite3 b) p (dot_left a b) (dot_right a b)

pub times_tells : (v : Vec3) (k : Float) (p : Bool) → tells (is_finite3 (times_c v k).value) p ≡ (tells (is_finite3 v) p || (tells (is_finite k) p || tells (is_finite3 (alone3 (times_c v k).value)) p))
unfolding alone3
times_tells v k p = two (is_finite3 (times_c v k).value) (is_finite3 v) (is_finite k) p (times_left v k) (times_right v k)

pub neg3_tells : (v : Vec3) (p : Bool) → tells (is_finite3 (neg_c v).value) p ≡ (tells (is_finite3 v) p || tells (is_finite3 (alone3 (neg_c v).value)) p)
unfolding alone3
neg3_tells v p = one (is_finite3 (neg_c v).value) (is_finite3 v) p (neg_left v)

pub ruleset opened = (◌⊞◌, ◌⊟◌, ◌⊠◌, ◌⊡◌, ◌⨯◌, plus_nine, minus_nine, times_nine, neg_nine, cross_nine, dot_nine)

pub ruleset absorbed = (absorbs_vn, absorbs_nv, absorbs_vv, ends_vn, ends_nv, ends_vv, alone3_tells, tells_x, tells_y, tells_z, plus_tells, minus_tells, cross_tells, dot_tells, times_tells, neg3_tells)

pub ruleset rules = (opened, absorbed)
