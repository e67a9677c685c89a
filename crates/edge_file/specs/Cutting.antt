-- A file is read record by record: `stepped` is the law of one step, `left_over` that of what is
-- left. Then stepping through the records of a file gives the file's line (`by_steps`), and so does
-- reading it piece by piece, whatever the pieces are (`by_pieces`). Assumes nothing.
-- Proved in proofs/Cutting.antt.
use Rattle.std.specs.Prelude.{ℕ, zero, suc, ◌≤◌, Bool, true, List, [], ◌∷◌, ◌++◌, T, eqb, take, drop}
use Rattle.std.proofs.Math.Bool.{false}
use Rattle.edge_records.specs.Records.{size_of, shortest}
use Rattle.edge_file.specs.Steps.{State, Stand, Open, Ended, Refused, line_on, step, is_refused, Fed}

-- ---- after a step the reading is open only where the step took an edge's record
abbrev pub OpenAfter : Stand → ℕ → Type 0
OpenAfter Open n = shortest ≤ n
OpenAfter Ended n = Unit {0}
OpenAfter (Refused m) n = Unit {0}

-- ---- step by step: the records that a file is cut into, at most n of them, and last what is left
-- where no record stands whole
abbrev pub cut_off : Bool → ℕ → List ℕ → (List ℕ → List (List ℕ)) → List (List ℕ)
cut_off true size file more = file ∷ []
cut_off false size file more = take size file ∷ more (drop size file)

unfoldable pub records_of : ℕ → List ℕ → List (List ℕ)
records_of zero file = []
records_of (suc n) [] = []
records_of (suc n) (b ∷ bs) = cut_off (eqb (size_of (b ∷ bs)) 0) (size_of (b ∷ bs)) (b ∷ bs) (records_of n)

unfoldable pub steps : State → List (List ℕ) → State
steps r [] = r
steps r (p ∷ ps) = steps (step r p) ps

-- ---- piece by piece: what the steps left of the bytes so far stands before the next piece, until
-- no more come or a refusal ends the reading
unfoldable pub joined : List (List ℕ) → List ℕ
joined [] = []
joined (p ∷ ps) = p ++ joined ps

pub data Run : State → List ℕ → List (List ℕ) → List ℕ → Type 0 where
  over : {r : State} {left : List ℕ} → Run r left [] (line_on r [])
  stops : {r : State} {left : List ℕ} {pieces : List (List ℕ)} → T (is_refused r) → Run r left pieces (line_on r [])
  more : {r q : State} {left piece line : List ℕ} {used : ℕ} {pieces : List (List ℕ)} → Fed r (left ++ piece) q used → Run q (drop used (left ++ piece)) pieces line → Run r left (piece ∷ pieces) line
