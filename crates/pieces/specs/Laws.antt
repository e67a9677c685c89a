-- Tests taken together, and what there may be. Assumes nothing.
use Rattle.std.specs.Prelude.{◌≡◌, refl, Bool, true, false, ◌&&◌, Option, Some, None, IsTrue, IsSomeAnd, MatchOption}
use Rattle.std.proofs.Common.{◌∙◌, sym, ap}

-- ten tests, two by two or three by three
pub pairs : (a b c d e f g h i j : Bool) → ((a && b) && ((c && d) && ((e && f) && ((g && h) && (i && j))))) ≡ ((a && (b && c)) && ((d && (e && f)) && ((g && (h && i)) && j)))
pairs false b c d e f g h i j = refl
pairs true false c d e f g h i j = refl
pairs true true false d e f g h i j = refl
pairs true true true false e f g h i j = refl
pairs true true true true false f g h i j = refl
pairs true true true true true false g h i j = refl
pairs true true true true true true false h i j = refl
pairs true true true true true true true false i j = refl
pairs true true true true true true true true false j = refl
pairs true true true true true true true true true false = refl
pairs true true true true true true true true true true = refl

-- ---- what there may be
-- as a call makes it of each, none of none
pub mapped : {A B : Type 0} (g : Option A → Option B) (f : A → B) → g None ≡ None → ((a : A) → g (Some a) ≡ Some (f a)) → (o : Option A) (r : Option B) (P : A → B → Type 0) → MatchOption o (r ≡ None) (λ a. IsSomeAnd r (P a)) → ((a : A) (b : B) → P a b → b ≡ f a) → r ≡ g o
mapped g f n s None r P h k = h ∙ sym n
mapped g f n s (Some a) None P h k = absurd h
mapped g f n s (Some a) (Some b) P h k = ap Some (k a b h) ∙ sym (s a)

-- as a call tries it, where there is none not at all
pub tried : {A : Type 0} (g : Option A → Bool) (f : A → Bool) → g None ≡ true → ((a : A) → g (Some a) ≡ f a) → (o : Option A) (r : Bool) (P : A → Type 0) → MatchOption o (IsTrue r) P → ((a : A) → P a → r ≡ f a) → r ≡ g o
tried g f n s None r P h k = h ∙ sym n
tried g f n s (Some a) r P h k = k a h ∙ sym (s a)
