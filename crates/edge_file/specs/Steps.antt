-- What the program holds while it reads a file, and what a record does to it.
use Rattle.std.specs.Prelude.{ℕ, ◌+◌, ◌≤◌, ◌<◌, ◌≡◌, Bool, true, false, List, [], ◌++◌, length, drop, Option, Some, None}
use Rattle.checked.specs.Refusals.{MALFORMED_FILE}
use Rattle.checked.specs.Checked.{Due, due, refused}
use Rattle.checked.specs.Told.{number}
use Rattle.boxes.specs.declared.Bounds.{Bounds}
use Rattle.edge_lines.specs.Lines.{refused_line}
use Rattle.edge_records.specs.declared.Record.{Record}
use Rattle.edge_records.specs.declared.Record.TheVariants as first
use Rattle.edge_records.specs.Records.{record_of, size_of, shortest, longest}
use Rattle.edge_file.specs.declared.Status.{Status}
use Rattle.edge_file.specs.declared.Status.TheVariants as status
use Rattle.edge_file.specs.declared.Reading.{Reading}
use Rattle.edge_file.specs.EdgeFile.{bounds_of, call_of, next, ended, line_from}

-- whether records are still to come, the end record was there, or a refusal, by its number, ended the reading
pub data Stand : Type 0 where
  Open Ended : Stand
  Refused : ℕ → Stand

-- what was seen, the number of the record that comes next, or of the one at which the reading ended, and how it stands
pub record State : Type 0 where
  pub seen : Option Bounds
  pub number : ℕ
  pub stand : Stand

-- what the code's reading tells
abbrev pub stand : Status → Stand
stand status.Open = Open
stand status.Ended = Ended
stand (status.Refused r) = Refused (number r)

abbrev pub state : Reading → State
state r = record { seen = r.seen; number = r.number; stand = stand r.status }

-- before the first byte
abbrev pub begun : State
begun = record { seen = None; number = 1; stand = Open }

-- the line where these bytes follow, and nothing after them
abbrev pub line_by : Stand → Option Bounds → ℕ → List ℕ → List ℕ
line_by Open seen k file = line_from (length file) seen k file
line_by Ended seen k file = ended seen k file
line_by (Refused n) seen k file = refused_line n k

unfoldable pub line_on : State → List ℕ → List ℕ
line_on r file = line_by r.stand r.seen r.number file

-- the refusal n at record k ends the reading
abbrev pub stopped : State → ℕ → ℕ → State
stopped r n k = record { seen = r.seen; number = k; stand = Refused n }

-- after an edge's box call
abbrev pub called_on : State → Due Bounds → State
called_on r (due b) = record { seen = Some b; number = next r.number; stand = Open }
called_on r (refused n) = stopped r n r.number

-- after a record
abbrev pub record_on : State → Record → State
record_on r (first.Edge e) = called_on r (call_of e (bounds_of r.seen))
record_on r first.End = record { seen = r.seen; number = r.number; stand = Ended }
record_on r first.Malformed = stopped r MALFORMED_FILE r.number

-- one step: the bytes of one record, or what is left of a file that is cut
abbrev pub step_by : Stand → State → List ℕ → State
step_by Open r bytes = record_on r (record_of bytes)
step_by Ended r bytes = stopped r MALFORMED_FILE (next r.number)
step_by (Refused n) r bytes = r

unfoldable pub step : State → List ℕ → State
step r bytes = step_by r.stand r bytes

-- how many bytes the next step takes: one record; all of them once the reading is over; 0 where a
-- record is not whole
abbrev pub due_by : Stand → List ℕ → ℕ
due_by Open bytes = size_of bytes
due_by Ended bytes = length bytes
due_by (Refused n) bytes = length bytes

unfoldable pub due_of : State → List ℕ → ℕ
due_of r bytes = due_by r.stand bytes

-- a refusal ended the reading
abbrev pub refused_by : Stand → Bool
refused_by Open = false
refused_by Ended = false
refused_by (Refused n) = true

unfoldable pub is_refused : State → Bool
is_refused r = refused_by r.stand

-- Some bytes are read, and `used` of them are taken: whatever follows, the line stays the same; and
-- if nothing follows, the bytes that are not taken do not count, since no record stands whole in
-- them. Fewer are left than the longest record has; and of no more than the shortest record of an
-- edge has, either all are taken or none.
pub record Fed (r : State) (bytes : List ℕ) (r' : State) (used : ℕ) : Type 0 where
  pub on : (rest : List ℕ) → line_on r' (drop used bytes ++ rest) ≡ line_on r (bytes ++ rest)
  pub over : line_on r' (drop used bytes) ≡ line_on r' []
  pub within : used ≤ length bytes
  pub little : length bytes < used + longest
  pub whole : length bytes ≤ shortest → 0 < used → used ≡ length bytes
