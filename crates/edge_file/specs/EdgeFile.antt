-- The line that is printed of an edge file, from the file's bytes.
use Rattle.std.specs.Prelude.{ℕ, zero, suc, ◌+◌, ◌-◌, ◌^◌, min, List, [], ◌∷◌, length, drop, Option, Some, None}
use Rattle.checked.specs.Refusals.{MALFORMED_FILE}
use Rattle.checked.specs.Checked.{Due, due, refused}
use Rattle.boxes.specs.Boxes.{empty}
use Rattle.boxes.specs.declared.Bounds.{Bounds}
use Rattle.arcs.specs.Entries.{extend_due}
use Rattle.edge_lines.specs.Lines.{empty_line, refused_line, box_line}
use Rattle.edge_records.specs.declared.Edge.{Edge}
use Rattle.edge_records.specs.declared.Record.{Record}
use Rattle.edge_records.specs.declared.Record.TheVariants as first
use Rattle.edge_records.specs.Records.{record_of, size_of}

-- an edge's box call
abbrev pub call_of : Edge → Bounds → Due Bounds
call_of e b = extend_due e.arc e.from e.to b

-- What was seen is the box of the edges so far, where there was one. The next edge widens it, and the first one the box with low corner +∞ and high
-- corner −∞.
abbrev pub bounds_of : Option Bounds → Bounds
bounds_of None = empty
bounds_of (Some b) = b

-- the number of the record after record k; the count ends at 2^64 - 1, which a file of 2^70 bytes
-- would reach
unfoldable pub next : ℕ → ℕ
next k = min (k + 1) (2 ^ 64 - 1)

-- the line at the end record, which is record k
abbrev pub printed : Option Bounds → ℕ → List ℕ
printed None k = empty_line
printed (Some b) k = box_line b.low b.high k

-- the same, with the bytes that follow the end record
unfoldable pub ended : Option Bounds → ℕ → List ℕ → List ℕ
ended seen k [] = printed seen k
ended seen k (b ∷ bs) = refused_line MALFORMED_FILE (next k)

-- after the box call of record k: the reading goes on with the box, or its refusal ends it
abbrev pub called : (Option Bounds → List ℕ) → ℕ → Due Bounds → List ℕ
called on k (due b) = on (Some b)
called on k (refused n) = refused_line n k

-- the line of a file whose first record is record k, where `on` reads the bytes after that record
abbrev pub by_record : (Option Bounds → ℕ → List ℕ → List ℕ) → Option Bounds → ℕ → List ℕ → Record → List ℕ
by_record on seen k after (first.Edge e) = called (λ s. on s (next k) after) k (call_of e (bounds_of seen))
by_record on seen k after first.End = ended seen k after
by_record on seen k after first.Malformed = refused_line MALFORMED_FILE k

-- the line of what is left of a file from record k on, of which there are at most n records more
unfoldable pub line_from : ℕ → Option Bounds → ℕ → List ℕ → List ℕ
line_from zero seen k file = refused_line MALFORMED_FILE k
line_from (suc n) seen k file = by_record (line_from n) seen k (drop (size_of file) file) (record_of file)

-- the line of a file, which has no more records than bytes
unfoldable pub line_of : List ℕ → List ℕ
unfolding line_from
line_of file = line_from (length file) None 1 file
