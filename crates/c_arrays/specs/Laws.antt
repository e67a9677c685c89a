-- What a count holds after a call on a lent row, and what is read by its tags. Assumes nothing.
use Rattle.std.specs.Prelude.{ℕ, ◌*◌, ◌≡◌, refl, Bool, true, false, List, Option, Some, None, Result, Ok, Err, set, Float}
use Rattle.std.proofs.Common.{sym, ◌∙◌, ap, arith, ne_eqb}
use Rattle.checked.specs.Checked.{Due, due, refused}
use Rattle.vectors.specs.declared.Vec3.{Vec3}
use Rattle.checked.specs.Answers.{number_of}
use Rattle.checked.specs.Told.{number, told}
use Rattle.checked.specs.ToldLaws.{number_some}
use Rattle.checked.specs.declared.Refusal.{Refusal}
use Rattle.rows.specs.Rows.{point, counted, Drawn}
use Rattle.rows.specs.Laws.{items_length}
use Rattle.c_arrays.specs.Records.{over, after, stored, known}
use Rattle.c_arrays.specs.ArcRecords.{of_drawn, after_count}

-- ---- how many numbers the points of a row are
counted_number : (d : Due (List Vec3)) → number_of (counted d) ≡ number_of d
counted_number (due ps) = refl
counted_number (refused n) = refl

module _ (l : List ℕ) where
  written_count : (d : Due (List Vec3)) (n : ℕ) → due n ≡ counted d → set l 0 (3 * n) ≡ after_count l d
  unfolding after_count
  written_count (due ps) n e = ap (set l 0) (ap (λ (d : Due ℕ). 3 * value d) e ∙ sym (items_length point ps))
    where
      value : Due ℕ → ℕ
      value (due k) = k
      value (refused k) = 0
  written_count (refused m) n e = absurd (let z : ◌≡◌ {A = ℕ} 0 1 = cc in omega arith)

  -- a refusal's number is not 0
  kept_count : (d : Due (List Vec3)) (r : Refusal) → refused (number r) ≡ counted d → l ≡ after_count l d
  unfolding after_count
  kept_count d r e = rw (ne_eqb (number_of d) 0 (λ h. number_some r (ap number_of e ∙ counted_number d ∙ h)))

module _ (d : Due (List Vec3)) (row left : List Float) where
  pub drawn_number : (answer : Result ℕ Refusal) → Drawn d row left (told answer) → number_of (told answer) ≡ number_of d
  drawn_number answer drawn = ap number_of drawn.count ∙ counted_number d

  pub drawn_count : (l : List ℕ) (answer : Result ℕ Refusal) → Drawn d row left (told answer) → after of_drawn l (told answer) ≡ after_count l d
  unfolding stored over
  drawn_count l (Ok n) drawn = written_count l d n drawn.count
  drawn_count l (Err r) drawn = kept_count l d r drawn.count

-- ---- a record by its tags
module _ {A : Type 0} (a x : A) where
  same : Some a ≡ Some x → a ≡ x
  same h = ap (λ o. get o) h
    where
      get : Option A → A
      get None = a
      get (Some b) = b

  -- one is read where the tags are known
  pub known_some : (b : Bool) (r : Option A) → r ≡ known b a → r ≡ Some x → (b ≡ true) × (a ≡ x)
  unfolding known
  known_some true r e h = (refl, same (sym e ∙ h))
  known_some false r e h = absurd (let z : ◌≡◌ {A = Option A} None (Some x) = sym e ∙ h in cc)

-- and none where they are not
pub known_none : {A : Type 0} (a : A) (b : Bool) (r : Option A) → r ≡ known b a → r ≡ None → b ≡ false
unfolding known
known_none {A = A} a true r e h = absurd (let z : ◌≡◌ {A = Option A} (Some a) None = sym e ∙ h in cc)
known_none a false r e h = refl
