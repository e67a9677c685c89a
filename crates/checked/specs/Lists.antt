-- A step for each of a list, and what all steps of a loop keep. Assumes nothing.
use Prim.Native.Nat.{ℕ, zero, suc}
use Rattle.std.specs.Prelude.{◌≡◌}
use Rattle.std.proofs.Math.Path.{refl, ap}
use Rattle.std.proofs.Common.{sym, ◌∙◌}
use mathlib.Core.List.{List, [], ◌∷◌}
use Rattle.checked.specs.Checked.{Checked, first, ◌>>=◌, given}
use Rattle.checked.specs.Laws.{zero_first, first_none}
use Rattle.checked.specs.Loops.{fold_c}

-- a step for each of a list, in its order
unfoldable pub fold_list_c : {A B : Type 0} → (B → A → Checked A) → List B → A → Checked A
fold_list_c step [] a = given a
fold_list_c step (b ∷ bs) a = do
  c ← step b a
  fold_list_c step bs c

-- ---- what each step that meets no refusal keeps, all of them keep
module _ {A : Type 0} (Good : A → Type 0) where
  pub fold_sound : (step : ℕ → A → Checked A) → ((i : ℕ) (a : A) → (step i a).refusal ≡ 0 → Good a → Good (step i a).value)
      → (n : ℕ) (a : A) → (fold_c n step a).refusal ≡ 0 → Good a → Good (fold_c n step a).value
  unfolding fold_c
  fold_sound step keeps zero a h g = g
  fold_sound step keeps (suc n) a h g =
      let none = first_none (fold_c n step a).refusal (step n (fold_c n step a).value).refusal h in
      keeps n (fold_c n step a).value none.1 (fold_sound step keeps n a none.0 g)

  pub list_sound : {B : Type 0} (step : B → A → Checked A) → ((b : B) (a : A) → (step b a).refusal ≡ 0 → Good a → Good (step b a).value)
      → (bs : List B) (a : A) → (fold_list_c step bs a).refusal ≡ 0 → Good a → Good (fold_list_c step bs a).value
  unfolding fold_list_c
  list_sound step keeps [] a h g = g
  list_sound step keeps (b ∷ bs) a h g =
      let none = first_none (step b a).refusal (fold_list_c step bs (step b a).value).refusal h in
      list_sound step keeps bs (step b a).value none.1 (keeps b a none.0 g)

-- ---- a refusal met before each step is met once, where there is a step
abbrev pub met_first : {A B : Type 0} → ℕ → (B → A → Checked A) → B → A → Checked A
met_first r f b a = record { refusal = first r (f b a).refusal; value = (f b a).value }

module _ {A B : Type 0} (f : B → A → Checked A) where
  list_value : (r : ℕ) (bs : List B) (a : A) → (fold_list_c (met_first r f) bs a).value ≡ (fold_list_c f bs a).value
  unfolding fold_list_c
  list_value r [] a = refl
  list_value r (b ∷ bs) a = list_value r bs (f b a).value

  list_none : (bs : List B) (a : A) → (fold_list_c (met_first 0 f) bs a).refusal ≡ (fold_list_c f bs a).refusal
  unfolding fold_list_c first
  list_none [] a = refl
  list_none (b ∷ bs) a = ap (first (f b a).refusal) (list_none bs (f b a).value)

  list_refusal : (r : ℕ) (b : B) (bs : List B) (a : A) → (fold_list_c (met_first r f) (b ∷ bs) a).refusal ≡ first r (fold_list_c f (b ∷ bs) a).refusal
  list_refusal zero b bs a = list_none (b ∷ bs) a ∙ sym (zero_first (fold_list_c f (b ∷ bs) a).refusal)
  list_refusal (suc r) b bs a = unfold fold_list_c first in refl

  pub list_once : (r : ℕ) (b : B) (bs : List B) (a : A) → fold_list_c (met_first r f) (b ∷ bs) a ≡ record { refusal = first r (fold_list_c f (b ∷ bs) a).refusal; value = (fold_list_c f (b ∷ bs) a).value }
  list_once r b bs a = λ i. record { refusal = list_refusal r b bs a i; value = list_value r (b ∷ bs) a i }
