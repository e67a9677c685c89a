-- Items one after the other, points above all, and a lent row that takes them.
use Rattle.std.specs.Prelude.{ℕ, zero, suc, ◌*◌, ◌^◌, ◌<◌, ◌≡◌, refl, List, [], ◌∷◌, ◌++◌, leb, length, drop, Float, Result, Ok, Err}
use Rattle.std.specs.Borrow.{MutBor}
use Rattle.std.proofs.lemmas.List.Edits.{sets}
use Rattle.checked.specs.Refusals.{ROW_TOO_SHORT}
use Rattle.checked.specs.Checked.{Checked, ◌>>=◌, given, Due, due, refused, answered}
use Rattle.checked.specs.Answers.{number_of}
use Rattle.checked.specs.Tests.{fails, passing}
use Rattle.checked.specs.Told.{number, told}
use Rattle.checked.specs.declared.Refusal.{Refusal}
use Rattle.vectors.specs.declared.Vec3.{Vec3}

-- what f gives at 1, at 2 and so on up to m, in this order
unfoldable pub up_to : {A : Type 0} → (ℕ → Checked A) → ℕ → Checked (List A)
up_to f zero = given []
up_to f (suc m) = do
  ps ← up_to f m
  p ← f (suc m)
  given (ps ++ p ∷ [])

-- what a row is made of: how many numbers an item takes, and which
pub record Item (A : Type 0) : Type 0 where
  pub width : ℕ
  pub numbers : A → List Float
  pub filled : (a : A) → length (numbers a) ≡ width

module _ {A : Type 0} (k : Item A) where
  -- the numbers of items one after the other
  unfoldable pub flat_items : List A → List Float
  flat_items [] = []
  flat_items (a ∷ xs) = k.numbers a ++ flat_items xs

  -- an item, stored behind the first i
  abbrev pub placed_item : ℕ → A → List Float → List Float
  placed_item i a buf = sets buf (k.width * i) (k.numbers a)

  -- a row of `room` numbers must hold m items
  abbrev pub fit_items : ℕ → ℕ → Due (List A) → Due (List A)
  fit_items room m rest = passing (fails ROW_TOO_SHORT (leb (k.width * m) room)) rest

-- ---- what a call on a lent row leaves
module _ {A : Type 0} (k : Item A) where
  -- the written part of the row
  abbrev pub part_items : Due (List A) → List Float
  part_items (due xs) = flat_items k xs
  part_items (refused n) = []

  -- the row: the items from its start, and then what stood there; unchanged by a refusal
  abbrev pub row_after_items : Due (List A) → List Float → List Float
  row_after_items (due xs) row = flat_items k xs ++ drop (length (flat_items k xs)) row
  row_after_items (refused n) row = row

-- how many items are written
abbrev pub counted : {A : Type 0} → Due (List A) → Due ℕ
counted (due xs) = due (length xs)
counted (refused n) = refused n

-- what a call answers, and what it leaves of the row
pub record DrawnItems {A : Type 0} (k : Item A) (d : Due (List A)) (row left : List Float) (answer : Due ℕ) : Type 0 where
  pub count : answer ≡ counted d
  pub rest : left ≡ row_after_items k d row

-- ---- rows of points, three numbers each
abbrev pub point : Item Vec3
point = record { width = 3; numbers = λ p. p.x ∷ p.y ∷ p.z ∷ []; filled = λ p. refl }

-- the points' numbers
abbrev pub flat : List Vec3 → List Float
flat ps = flat_items point ps

-- the point p, stored behind the first i
abbrev pub placed : ℕ → Vec3 → List Float → List Float
placed i p buf = placed_item point i p buf

-- a row of `room` numbers must hold m points
abbrev pub fits : ℕ → ℕ → Due (List Vec3) → Due (List Vec3)
fits room m rest = fit_items point room m rest

-- the written part of the row
abbrev pub part_of : Due (List Vec3) → List Float
part_of d = part_items point d

-- the row that is left
abbrev pub row_after : Due (List Vec3) → List Float → List Float
row_after d row = row_after_items point d row

-- what a call answers, and what it leaves
abbrev pub Drawn : Due (List Vec3) → List Float → List Float → Due ℕ → Type 0
Drawn d row left answer = DrawnItems point d row left answer

-- a call that answers the written part of the row itself
abbrev pub DrawnPart : Due (List Vec3) → Result (MutBor (List Float)) Refusal → Type 0
DrawnPart d (Ok part) = (number_of d ≡ 0) × (part.now ≡ part_of d)
DrawnPart d (Err r) = refused (number r) ≡ d

-- ---- whoever draws: each call gives what f is, as a `u16` counts
abbrev pub Gives : (ℕ → Result Vec3 Refusal → Type 0) → (ℕ → Checked Vec3) → Type 0
Gives call f = (k : ℕ) (r : Result Vec3 Refusal) → k < 2 ^ 16 → call k r → told r ≡ answered (f k)

-- a buffer that the points 1 to m are worked out into; after a refusal it may hold anything
pub record Kept (f : ℕ → Checked Vec3) (m : ℕ) (buf left : List Float) (refusal : ℕ) : Type 0 where
  pub met : refusal ≡ (up_to f m).refusal
  pub points : refusal ≡ 0 → left ≡ flat (up_to f m).value ++ drop (3 * m) buf

-- a row that holds them, or is as it was
pub record Stored (f : ℕ → Checked Vec3) (m : ℕ) (row left : List Float) (refusal : ℕ) : Type 0 where
  pub met : refusal ≡ (up_to f m).refusal
  pub rest : left ≡ row_after (answered (up_to f m)) row
