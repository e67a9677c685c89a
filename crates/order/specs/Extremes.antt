-- The least and the greatest of a list of numbers. That taking the lesser or the greater of one after the other finds them is proved in proofs/Extremes.antt.
use Rattle.std.specs.Prelude.{◌≡◌, refl, ◌⊎◌, Bool, true, false, T, Float}
use mathlib.Core.List.{List, [], ◌∷◌, Memᴰ}
use Rattle.std.specs.Float.Ieee.{lt, eq, le}
use Rattle.order.specs.Order.{Number, lt_le, eq_le, eq_sym, lt_not_le, le_refl_of, le_antisym, le_trans_of}
use Rattle.order.specs.Least.{negative}

-- ================ the statement

-- at most, and of two that are equal one with a minus sign first: −0 before +0
abbrev pub Before : Float → Float → Type 0
Before x y = T (le x y) × (T (eq x y) → T (negative y) → T (negative x))

abbrev pub After : Float → Float → Type 0
After x y = Before y x

-- r is one of xs, and stands in the relation R to each of them
pub record Extreme (R : Float → Float → Type 0) (r : Float) (xs : List Float) : Type 0 where
  pub among : Memᴰ r xs
  pub bounds : (x : Float) → Memᴰ x xs → R r x

abbrev pub Least : Float → List Float → Type 0
Least r xs = Extreme Before r xs

abbrev pub Greatest : Float → List Float → Type 0
Greatest r xs = Extreme After r xs

-- equal, and of like sign
abbrev pub Same : Float → Float → Type 0
Same x y = T (eq x y) × (negative x ≡ negative y)

-- each one of the first list is in the second
abbrev pub Within : {A : Type 0} → List A → List A → Type 0
Within {A} xs ys = (x : A) → Memᴰ x xs → Memᴰ x ys

-- one after the other
unfoldable pub fold : (Float → Float → Float) → Float → List Float → Float
fold pick a [] = a
fold pick a (x ∷ xs) = fold pick (pick a x) xs

-- ================ the order
pub before_refl : (x : Float) → Number x → Before x x
before_refl x N = (le_refl_of x N, λ e n. n)

pub before_trans : (x y z : Float) → Before x y → Before y z → Before x z
before_trans x y z p q = (
  le_trans_of x y z p.0 q.0,
  λ e n.
      let zx : T (le z x) = eq_le z x (eq_sym x z e) in
      p.1 (le_antisym x y p.0 (le_trans_of y z x q.0 zx)) (q.1 (le_antisym y z q.0 (le_trans_of z x y zx p.0)) n),
)

before_antisym : (x y : Float) → Before x y → Before y x → Same x y
before_antisym x y p q =
    let e = le_antisym x y p.0 q.0 in
    (e, iff_same (negative x) (negative y) (q.1 (eq_sym x y e)) (p.1 e))
  where
    iff_same : (p q : Bool) → (T p → T q) → (T q → T p) → p ≡ q
    iff_same true true f g = refl
    iff_same true false f g = absurd (f tt)
    iff_same false true f g = absurd (g tt)
    iff_same false false f g = refl

pub from_lt : (x y : Float) → T (lt x y) → Before x y
from_lt x y h = (lt_le x y h, λ e n. absurd (lt_not_le x y h (eq_le y x (eq_sym x y e))))

-- ================ of two
pub record Picked (R : Float → Float → Type 0) (r a b : Float) : Type 0 where
  pub one : R r a
  pub two : R r b
  pub which : (r ≡ a) ⊎ (r ≡ b)

-- ================ of a list
abbrev pub AllNumbers : List Float → Type 0
AllNumbers xs = (x : Float) → Memᴰ x xs → Number x

-- two lists that hold the same numbers have the same least and the same greatest
pub one_least : (r s : Float) (xs ys : List Float) → Within xs ys → Within ys xs → Least r xs → Least s ys → Same r s
one_least r s xs ys v w p q = before_antisym r s (p.bounds s (w s q.among)) (q.bounds r (v r p.among))

pub one_greatest : (r s : Float) (xs ys : List Float) → Within xs ys → Within ys xs → Greatest r xs → Greatest s ys → Same r s
one_greatest r s xs ys v w p q = before_antisym r s (q.bounds r (v r p.among)) (p.bounds s (w s q.among))
