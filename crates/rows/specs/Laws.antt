-- Laws of items one after the other, and of rows that take them. Assumes nothing.
use Prim.Native.Nat.{ℕ, zero, suc, ◌+◌, ◌-◌, ◌*◌, ◌≤◌, ◌<◌}
use Rattle.std.specs.Prelude.{◌≡◌, take, drop, set, leb, Float, Result}
use Rattle.std.specs.Borrow.{MutBor}
use Rattle.std.specs.Result.{IsErr, IsErrAnd}
use Rattle.std.proofs.lemmas.Result.{err_from_is_err_and}
use Rattle.std.proofs.Math.Path.{refl, sym, ap}
use Rattle.std.proofs.Common.{◌∙◌, ap₂, arith, add-one, add-zero, add-suc, mul-suc, mul-zero, length-drop, drop-drop, take_at, drop_at}
use mathlib.Core.List.{List, [], ◌∷◌, ◌++◌, append_assoc, append-nil}
use Rattle.std.proofs.Math.ListN.{length, length-append}
use Rattle.std.proofs.lemmas.List.Edits.{sets, sets-eq}
use Rattle.checked.specs.Refusals.{ROW_TOO_SHORT}
use Rattle.checked.specs.Checked.{Checked, first, Due, due, refused, answered}
use Rattle.checked.specs.Answers.{number_of}
use Rattle.checked.specs.Tests.{fails}
use Rattle.checked.specs.TestsLaws.{never, passing_none}
use Rattle.checked.specs.Laws.{first_zero, zero_first, settled_none}
use Rattle.checked.specs.Told.{number, told}
use Rattle.checked.specs.ToldLaws.{first_number, settled_number, exit_is}
use Rattle.checked.specs.declared.Refusal.{Refusal}
use Rattle.vectors.specs.declared.Vec3.{Vec3}
use Rattle.rows.specs.Rows.{up_to, Item, flat_items, placed_item, counted, part_items, row_after_items, DrawnItems, point, flat, fits, row_after, Drawn, DrawnPart, Stored}

-- ---- one more
pub up_to_refusal : {A : Type 0} (f : ℕ → Checked A) (m : ℕ) → (up_to f (m + 1)).refusal ≡ first (up_to f m).refusal (f (m + 1)).refusal
unfolding up_to
up_to_refusal f m = rw (add-one m) (simp first_zero)

pub up_to_value : {A : Type 0} (f : ℕ → Checked A) (m : ℕ) → (up_to f (m + 1)).value ≡ (up_to f m).value ++ (f (m + 1)).value ∷ []
unfolding up_to
up_to_value f m = rw (add-one m)

-- the same values one by one are the same list
pub up_to_same : {A : Type 0} (f g : ℕ → Checked A) → ((k : ℕ) → (f k).value ≡ (g k).value) → (m : ℕ) → (up_to f m).value ≡ (up_to g m).value
unfolding up_to
up_to_same f g h zero = refl
up_to_same f g h (suc m) = rw (up_to_same f g h m, h (suc m))

-- one value each
pub up_to_length : {A : Type 0} (f : ℕ → Checked A) (m : ℕ) → length (up_to f m).value ≡ m
unfolding up_to
up_to_length f zero = refl
up_to_length f (suc m) = rw (length-append, up_to_length f m) (add-one m)

-- the refusal that an item meets first is met by all items up to any later one
later : {A : Type 0} (f : ℕ → Checked A) (i d : ℕ) (r : Refusal) → (up_to f i).refusal ≡ number r → (up_to f (i + d)).refusal ≡ number r
later f i zero r h = ap (λ (n : ℕ). (up_to f n).refusal) (add-zero i) ∙ h
later f i (suc d) r h = ap (λ (n : ℕ). (up_to f n).refusal) (add-suc i d ∙ sym (add-one (i + d))) ∙ (up_to_refusal f (i + d) ∙ rw (later f i d r h) (first_number r _))

pub up_to_refused : {A : Type 0} (f : ℕ → Checked A) (i m : ℕ) (r : Refusal) → i < m → (up_to f i).refusal ≡ 0 → (f (i + 1)).refusal ≡ number r → number r ≡ (up_to f m).refusal
up_to_refused f i m r l none met =
    let last : i + 1 + (m - (i + 1)) ≡ m = omega (arith, l) in
    sym (ap (λ (n : ℕ). (up_to f n).refusal) (sym last) ∙ later f (i + 1) (m - (i + 1)) r (up_to_refusal f i ∙ rw (none, met) (zero_first (number r))))

-- one more meets none
pub up_to_more : {A : Type 0} (f : ℕ → Checked A) (i : ℕ) → (up_to f i).refusal ≡ 0 → (f (i + 1)).refusal ≡ 0 → (up_to f (i + 1)).refusal ≡ 0
up_to_more f i none met = up_to_refusal f i ∙ rw (none, met) (zero_first 0)

-- ---- items stored one behind the other
-- one item more takes its width more
one_more : (w i : ℕ) → w * (i + 1) ≡ w * i + w
one_more w i = rw add-one (mul-suc w i)

-- three numbers, stored one by one
pub three_stored : (buf : List Float) (n : ℕ) (x y z : Float) → set (set (set buf n x) (n + 1) y) (n + 2) z ≡ sets buf n (x ∷ y ∷ z ∷ [])
three_stored buf n x y z =
    let two : n + 2 ≡ suc (suc n) = omega arith in
    rw (add-one n, two)

module _ {A : Type 0} (k : Item A) where
  pub flat_append : (xs ys : List A) → flat_items k (xs ++ ys) ≡ flat_items k xs ++ flat_items k ys
  unfolding flat_items
  flat_append [] ys = refl
  flat_append (a ∷ xs) ys = ap (λ (l : List Float). k.numbers a ++ l) (flat_append xs ys) ∙ sym (append_assoc (k.numbers a) (flat_items k xs) (flat_items k ys))

  pub flat_one : (a : A) → flat_items k (a ∷ []) ≡ k.numbers a
  unfolding flat_items
  flat_one a = append-nil (k.numbers a)

  -- one more
  pub flat_more : (f : ℕ → Checked A) (i : ℕ) → flat_items k (up_to f (i + 1)).value ≡ flat_items k (up_to f i).value ++ k.numbers (f (i + 1)).value
  flat_more f i = rw (up_to_value f i, flat_append (up_to f i).value ((f (i + 1)).value ∷ []), flat_one (f (i + 1)).value)

  pub items_length : (xs : List A) → length (flat_items k xs) ≡ k.width * length xs
  unfolding flat_items
  items_length [] = sym (mul-zero k.width)
  items_length (a ∷ xs) = rw (length-append, items_length xs, k.filled a) (omega (arith, mul-suc k.width (length xs)))

  pub flat_length : (f : ℕ → Checked A) (m : ℕ) → length (flat_items k (up_to f m).value) ≡ k.width * m
  flat_length f m = items_length (up_to f m).value ∙ ap (λ (n : ℕ). k.width * n) (up_to_length f m)

  pub flat_part : (f : ℕ → Checked A) (m : ℕ) (rest : List Float) → take (k.width * m) (flat_items k (up_to f m).value ++ rest) ≡ flat_items k (up_to f m).value
  flat_part f m rest = take_at (flat_items k (up_to f m).value) rest (k.width * m) (flat_length f m)

  -- the item after the first i, written behind them
  pub item_put : (f : ℕ → Checked A) (row : List Float) (i : ℕ) → k.width * (i + 1) ≤ length row → placed_item k i (f (i + 1)).value (flat_items k (up_to f i).value ++ drop (k.width * i) row) ≡ flat_items k (up_to f (i + 1)).value ++ drop (k.width * (i + 1)) row
  item_put f row i h =
      let w = k.width in
      let a = flat_items k (up_to f i).value in
      let vs = k.numbers (f (i + 1)).value in
      let l = a ++ drop (w * i) row in
      let next : w * i + length vs ≡ w * (i + 1) = ap (λ (n : ℕ). w * i + n) (k.filled (f (i + 1)).value) ∙ sym (one_more w i) in
      let room : w * i + length vs ≤ length l = rw (next, length-append, length-drop, flat_length f i) (omega (arith, one_more w i, h)) in
      let rest : drop (w * i + length vs) l ≡ drop (w * (i + 1)) row = sym (drop-drop (length vs) (w * i) l) ∙ (ap (drop (length vs)) (drop_at a (drop (w * i) row) (w * i) (flat_length f i)) ∙ (drop-drop (length vs) (w * i) row ∙ ap (λ (n : ℕ). drop n row) next)) in
      sets-eq vs l (w * i) room
      ∙ (ap₂ (λ (t r : List Float). (t ++ vs) ++ r) (take_at a (drop (w * i) row) (w * i) (flat_length f i)) rest
      ∙ ap (λ (t : List Float). t ++ drop (w * (i + 1)) row) (sym (flat_more f i)))

  -- ---- the written part, by how many items the call answered
  part_count : (d : Due (List A)) (n : ℕ) → due n ≡ counted d → (number_of d ≡ 0) × (k.width * n ≡ length (part_items k d))
  part_count (due xs) n h = (refl, ap (λ (i : ℕ). k.width * i) (ap get h) ∙ sym (items_length xs))
    where
      get : Due ℕ → ℕ
      get (due i) = i
      get (refused i) = n
  part_count (refused r) n h = absurd (never r n (sym h))

  pub part_taken : (d : Due (List A)) (row : List Float) → take (length (part_items k d)) (row_after_items k d row) ≡ part_items k d
  part_taken (due xs) row = take_at (flat_items k xs) (drop (length (flat_items k xs)) row) (length (flat_items k xs)) refl
  part_taken (refused n) row = refl

  module _ (d : Due (List A)) (row left : List Float) (n : ℕ) (drawn : DrawnItems k d row left (due n)) where
    -- it is the start of the row that is left
    pub part_written : (number_of d ≡ 0) × (take (k.width * n) left ≡ part_items k d)
    part_written =
        let c = part_count d n drawn.count in
        (c.0, rw (c.1, drawn.rest) (part_taken d row))

    pub part_within : k.width * n ≡ length (take (k.width * n) left)
    part_within = (part_count d n drawn.count).1 ∙ ap length (sym part_written.1)

  -- a call that a `?` ends
  pub drawn_stops : (d : Due (List A)) (row : List Float) (answer : Result ℕ Refusal) (r : Refusal) → IsErr answer × IsErrAnd answer (λ e. e ≡ r) → d ≡ refused (number r) → DrawnItems k d row row (told answer)
  drawn_stops d row answer r exit is = rw is (record { count = exit_is answer r exit; rest = refl })

pub part_stops : (d : Due (List Vec3)) (left : List Float) (row : List Float) (answer : Result (MutBor (List Float)) Refusal) (r : Refusal) → IsErr answer × IsErrAnd answer (λ e. e ≡ r) → Drawn d row left (refused (number r)) → DrawnPart d answer
part_stops d left row answer r exit drawn =
    let e = err_from_is_err_and answer exit.1 in
    rw e.1 (ap (λ (x : Refusal). refused (number x)) e.2 ∙ refused_is d (number r) drawn.count)
  where
    refused_is : (d : Due (List Vec3)) (n : ℕ) → refused n ≡ counted d → refused n ≡ d
    refused_is (due xs) n h = absurd (never n (length xs) (h))
    refused_is (refused m) n h = ap (λ (i : ℕ). refused i) (ap number_of h)

-- ---- points worked out
module _ (f : ℕ → Checked Vec3) (m : ℕ) (row : List Float) where
  refusal_due : (r : Refusal) → number r ≡ (up_to f m).refusal → answered (up_to f m) ≡ refused (number r)
  refusal_due r met = rw (sym met) (settled_number r (up_to f m).value)

  points_due : (up_to f m).refusal ≡ 0 → answered (up_to f m) ≡ due (up_to f m).value
  points_due none = rw none (settled_none (up_to f m).value)

  -- none is written where one met a refusal
  pub stored_not : (r : Refusal) (n : ℕ) → n ≡ number r → number r ≡ (up_to f m).refusal → Stored f m row row n
  stored_not r n is met = record { met = is ∙ met; rest = rw (refusal_due r met) }

  -- all are, where none did
  pub stored_all : (n : ℕ) (left : List Float) → n ≡ (up_to f m).refusal → (up_to f m).refusal ≡ 0 → left ≡ flat (up_to f m).value ++ drop (3 * m) row → Stored f m row left n
  stored_all n left met none is = record { met = met; rest = is ∙ rw (points_due none, flat_length point f m) }

  -- what the row holds is what is due of it, once it has room for all
  module _ (room : fails ROW_TOO_SHORT (leb (3 * m) (length row)) ≡ 0) (left : List Float) where
    pub written_not : (answer : Result ℕ Refusal) (r : Refusal) → IsErr answer × IsErrAnd answer (λ e. e ≡ r) → Stored f m row left (number r) → Drawn (fits (length row) m (answered (up_to f m))) row left (told answer)
    written_not answer r exit s =
        let d = refusal_due r s.met in
        rw (room, d, passing_none 0 (refused (number r)) refl) (record { count = exit_is answer r exit; rest = s.rest ∙ ap (λ (x : Due (List Vec3)). row_after x row) d })

    pub written_all : Stored f m row left 0 → Drawn (fits (length row) m (answered (up_to f m))) row left (due m)
    written_all s =
        let d = points_due (sym s.met) in
        rw (room, d, passing_none 0 (due (up_to f m).value) refl) (record { count = ap (λ (n : ℕ). due n) (sym (up_to_length f m)); rest = s.rest ∙ ap (λ (x : Due (List Vec3)). row_after x row) d })
