-- The records of an edge file. A record is a tag byte, a length of two bytes, low byte first, and
-- as many bytes as the length says.
use Rattle.std.specs.Prelude.{ℕ, ◌+◌, ◌*◌, cond, List, [], ◌∷◌, ltb, eqb, Float, length, take, drop}
use Rattle.checked.specs.Patterns.{of_pattern}
use Rattle.vectors.specs.declared.Vec3.{Vec3}
use Rattle.vectors.specs.Vectors.{space}
use Rattle.edge_records.specs.declared.Edge.{Edge}
use Rattle.edge_records.specs.declared.Record.{Record}
use Rattle.edge_records.specs.declared.Record.TheVariants as first
use Rattle.edge_records.specs.declared.Kind.{Kind}
use Rattle.edge_records.specs.declared.Kind.TheVariants as kind

-- ---- numbers
-- the number of bytes, low byte first
unfoldable pub low_first : List ℕ → ℕ
low_first [] = 0
low_first (b ∷ bs) = b + 256 * low_first bs

-- the f64 whose bits stand from byte i on, and the point of three
unfoldable pub number_at : ℕ → List ℕ → Float
number_at i bytes = of_pattern (low_first (take 8 (drop i bytes)))

unfoldable pub point_at : ℕ → List ℕ → Vec3
point_at i bytes = space (number_at i bytes) (number_at (i + 8) bytes) (number_at (i + 16) bytes)

-- ---- records
-- tag 1: an arc with its ends; tag 127: the end
unfoldable pub tagged : ℕ → Kind
tagged tag = cond (eqb tag 1) kind.Arc (cond (eqb tag 127) kind.End kind.Unknown)

-- the length that a record of a kind announces: the bytes after its head
abbrev pub length_of : Kind → ℕ
length_of kind.Arc = 104
length_of kind.End = 0
length_of kind.Unknown = 0
length_of kind.Short = 0

-- what a head announces; nothing known where the length is not the tag's
unfoldable pub head_of : ℕ → ℕ → Kind
head_of tag size = let k = tagged tag in cond (eqb size (length_of k)) k kind.Unknown

-- what the first record of a file is, by its head; short where the head, or what it announces, is
-- not all there
unfoldable pub kind_of : List ℕ → Kind
kind_of [] = kind.Short
kind_of (t ∷ []) = kind.Short
kind_of (t ∷ a ∷ []) = kind.Short
kind_of (t ∷ a ∷ b ∷ body) = let k = head_of t (low_first (a ∷ b ∷ [])) in cond (ltb (length body) (length_of k)) kind.Short k

-- the bytes after the head of an arc's record: centre, axis, radius, first end, second end
unfoldable pub edge_of : List ℕ → Edge
edge_of body = record {
  arc = record { center = point_at 0 body; axis = point_at 24 body; radius = number_at 48 body };
  from = point_at 56 body;
  to = point_at 80 body;
}

-- the first record of a file; malformed where its tag or its length is not known, and where it is
-- cut short
abbrev pub of_kind : Kind → List ℕ → Record
of_kind kind.Arc body = first.Edge (edge_of body)
of_kind kind.End body = first.End
of_kind kind.Unknown body = first.Malformed
of_kind kind.Short body = first.Malformed

unfoldable pub record_of : List ℕ → Record
record_of file = of_kind (kind_of file) (drop 3 file)

-- ---- how a file is cut into records
-- the bytes of a record of a kind: its head and what follows it; an unknown head is taken by
-- itself, and nothing of a record that is cut short
abbrev pub size_of_kind : Kind → ℕ
size_of_kind kind.Arc = 3 + length_of kind.Arc
size_of_kind kind.End = 3
size_of_kind kind.Unknown = 3
size_of_kind kind.Short = 0

-- the bytes that the first record of a file takes
unfoldable pub size_of : List ℕ → ℕ
size_of file = size_of_kind (kind_of file)

-- the bytes of the shortest and of the longest record of an edge
abbrev pub shortest : ℕ
shortest = size_of_kind kind.Arc

abbrev pub longest : ℕ
longest = size_of_kind kind.Arc
