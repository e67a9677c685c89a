-- Taking the lesser or the greater of two numbers picks one of them, and taking it of one after the other finds the least or the greatest of a list.
use Rattle.std.specs.Prelude.{◌≡◌, refl, ◌⊎◌, Bool, true, false, cond, T, Float}
use Rattle.std.proofs.Common.{sym, ◌∙◌, inl, inr}
use Rattle.std.proofs.Math.Path.{subst}
use Rattle.std.proofs.Math.Logic.{⊎_elim}
use mathlib.Core.List.Memᴰ
use mathlib.Core.List.{List, [], ◌∷◌, Memᴰ}
use Rattle.std.specs.Float.{nan}
use Rattle.std.specs.Float.Ieee.{lt, eq}
use Rattle.order.specs.Order.{Number, eq_le, not_lt_le, holds, fails, neither}
use Rattle.order.specs.Least.{negative, least, greatest}
use Rattle.order.specs.Extremes.{Before, After, Extreme, Least, Greatest, Picked, AllNumbers, fold, before_refl, before_trans, from_lt}

-- ================ of two
pub least_picks : (a b : Float) → Number a → Number b → Picked Before (least a b) a b
unfolding least
least_picks a b A B = go (lt a b) (lt b a) (eq a b) (negative a) refl refl refl refl
  where
    go : (p q e g : Bool) → lt a b ≡ p → lt b a ≡ q → eq a b ≡ e → negative a ≡ g → Picked Before (cond p a (cond q b (cond e (cond g a b) nan))) a b
    go true q e g P Q E G = record { one = before_refl a A; two = from_lt a b (holds (lt a b) P); which = inl refl }
    go false true e g P Q E G = record { one = from_lt b a (holds (lt b a) Q); two = before_refl b B; which = inr refl }
    go false false true true P Q E G = record { one = before_refl a A; two = (eq_le a b (holds (eq a b) E), λ e n. holds (negative a) G); which = inl refl }
    go false false true false P Q E G = record { one = (not_lt_le a b A B (fails (lt a b) P), λ e n. absurd (subst T G n)); two = before_refl b B; which = inr refl }
    go false false false g P Q E G = absurd (neither a b A B P Q E)

pub greatest_picks : (a b : Float) → Number a → Number b → Picked After (greatest a b) a b
unfolding greatest
greatest_picks a b A B = go (lt a b) (lt b a) (eq a b) (negative a) refl refl refl refl
  where
    go : (p q e g : Bool) → lt a b ≡ p → lt b a ≡ q → eq a b ≡ e → negative a ≡ g → Picked After (cond p b (cond q a (cond e (cond g b a) nan))) a b
    go true q e g P Q E G = record { one = from_lt a b (holds (lt a b) P); two = before_refl b B; which = inr refl }
    go false true e g P Q E G = record { one = before_refl a A; two = from_lt b a (holds (lt b a) Q); which = inl refl }
    go false false true true P Q E G = record { one = (eq_le a b (holds (eq a b) E), λ e n. holds (negative a) G); two = before_refl b B; which = inr refl }
    go false false true false P Q E G = record { one = before_refl a A; two = (not_lt_le a b A B (fails (lt a b) P), λ e n. absurd (subst T G n)); which = inl refl }
    go false false false g P Q E G = absurd (neither a b A B P Q E)

-- ================ of a list
-- one law for the least and the greatest
module _ (R : Float → Float → Type 0)
    (R-refl : (x : Float) → Number x → R x x)
    (R-trans : (x y z : Float) → R x y → R y z → R x z)
    (pick : Float → Float → Float)
    (picks : (a b : Float) → Number a → Number b → Picked R (pick a b) a b)
  where
    number_of : (a b : Float) → Number a → Number b → Number (pick a b)
    number_of a b A B = ⊎_elim (λ (e : pick a b ≡ a). subst Number (sym e) A) (λ (e : pick a b ≡ b). subst Number (sym e) B) (picks a b A B).which

    extreme : (a : Float) (xs : List Float) → Number a → AllNumbers xs → Extreme R (fold pick a xs) (a ∷ xs)
    unfolding fold
    extreme a [] A all = record {
      among = Memᴰ.head refl;
      bounds = λ x m. ⊎_elim (λ (e : x ≡ a). subst (λ (y : Float). R a y) (sym e) (R-refl a A)) (λ (n : Memᴰ x []). absurd (Memᴰ.not-nil n)) (Memᴰ.cases_cons m);
    }
    extreme a (y ∷ ys) A all = step (extreme (pick a y) ys (number_of a y A Y) (λ x m. all x (Memᴰ.tail m)))
      where
        Y : Number y
        Y = all y (Memᴰ.head refl)

        step : Extreme R (fold pick (pick a y) ys) (pick a y ∷ ys) → Extreme R (fold pick (pick a y) ys) (a ∷ (y ∷ ys))
        step ih =
            let r = fold pick (pick a y) ys in
            let top : R r (pick a y) = ih.bounds (pick a y) (Memᴰ.head refl) in
            record {
              among = chosen (Memᴰ.cases_cons ih.among);
              bounds = λ x m. ⊎_elim
                  (λ (e : x ≡ a). subst (λ (v : Float). R r v) (sym e) (R-trans r (pick a y) a top (picks a y A Y).one))
                  (λ (n : Memᴰ x (y ∷ ys)). ⊎_elim
                  (λ (e : x ≡ y). subst (λ (v : Float). R r v) (sym e) (R-trans r (pick a y) y top (picks a y A Y).two))
                  (λ (l : Memᴰ x ys). ih.bounds x (Memᴰ.tail l))
                  (Memᴰ.cases_cons n))
                  (Memᴰ.cases_cons m);
            }
          where
            chosen : (fold pick (pick a y) ys ≡ pick a y) ⊎ Memᴰ (fold pick (pick a y) ys) ys → Memᴰ (fold pick (pick a y) ys) (a ∷ (y ∷ ys))
            chosen (inr m) = Memᴰ.tail (Memᴰ.tail m)
            chosen (inl e) = ⊎_elim (λ (f : pick a y ≡ a). Memᴰ.head (e ∙ f)) (λ (f : pick a y ≡ y). Memᴰ.tail (Memᴰ.head (e ∙ f))) (picks a y A Y).which

pub lowest : (a : Float) (xs : List Float) → Number a → AllNumbers xs → Least (fold least a xs) (a ∷ xs)
lowest = extreme Before before_refl before_trans least least_picks

pub highest : (a : Float) (xs : List Float) → Number a → AllNumbers xs → Greatest (fold greatest a xs) (a ∷ xs)
highest = extreme After before_refl (λ x y z p q. before_trans z y x q p) greatest greatest_picks
