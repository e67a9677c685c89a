-- The line of a well-formed file of arcs whose numbers are in range: `empty`, `box` with six
-- numbers, or a refusal by 10 at printing. No other refusal is met. Assumes nothing.
-- Proved in proofs/ArcFiles.antt.

use Rattle.std.specs.Prelude.{ℕ, List, [], ◌∷◌, ◌++◌, T}
use Rattle.checked.specs.Refusals.{COUNT_TOO_LARGE}
use Rattle.arcs.specs.Sweep.{ends_within}
use Rattle.edge_lines.specs.Lines.{bytes, empty_line, refused_line}
use Rattle.edge_records.specs.declared.Edge.{Edge}

-- ================ the claim

-- every number of every arc passes the test of what is handed in
abbrev pub InRange : List Edge → Type 0
InRange [] = Unit
InRange (e ∷ es) = T (ends_within e.arc.center e.arc.axis e.arc.radius e.from e.to) × InRange es

-- the lines that can be printed
pub data Line : List ℕ → Type 0 where
  none : Line empty_line
  box : (text : List ℕ) → Line (bytes "box" ++ text)
  too_large : (k : ℕ) → Line (refused_line COUNT_TOO_LARGE k)
