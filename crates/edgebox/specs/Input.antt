-- What one read of the input does to a reading, when another one is due, and what a reading has taken in the end.
use Rattle.std.specs.Prelude.{ℕ, ◌≡◌, Bool, not, ◌&&◌, List, [], ◌++◌, eqb, length}
use Rattle.edge_records.specs.Records.{shortest}
use Rattle.edge_file.specs.EdgeFile.{line_of}
use Rattle.edge_file.specs.Steps.{State, line_on, is_refused}

-- The reading r takes the bytes of a read, and q follows: as many as an edge's record has are taken
-- whole, whatever comes after them; fewer are the last of the file, and the line is that of a file
-- which ends with them.
pub record Took (r : State) (bytes : List ℕ) (q : State) : Type 0 where
  pub on : length bytes ≡ shortest → (rest : List ℕ) → line_on q rest ≡ line_on r (bytes ++ rest)
  pub over : line_on q [] ≡ line_on r bytes

-- another read is due after a whole one, unless a refusal ended the reading
abbrev pub is_due : State → List ℕ → Bool
is_due q bytes = not (is_refused q) && eqb (length bytes) shortest

-- the reading has taken a file, and its line is that file's
abbrev pub HasRead : State → Type 0
HasRead r = (file : List ℕ) × (line_on r [] ≡ line_of file)
