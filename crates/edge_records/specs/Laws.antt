-- A file is cut where its records end: the first record is the same with and without the bytes that
-- follow it. Assumes nothing.
use Rattle.std.specs.Prelude.{◌≡◌, refl, Bool, true, false, cond, List, [], ◌∷◌, ◌++◌, ℕ, suc, ◌+◌, ◌≤◌, ◌<◌, ltb, eqb, length, take, drop}
use Rattle.std.proofs.Common.{sym, ap, ◌∙◌, subst, arith, length-append, length-drop, take-append-drop, length-take-le}
use Rattle.std.proofs.lemmas.List.{take-append-le, drop-append-le}
use borrow.Author.Tests.{le-ltb, ltb-false}
use Rattle.checked.specs.Patterns.{of_pattern}
use Rattle.edge_records.specs.Records.{low_first, number_at, point_at, tagged, length_of, head_of, kind_of, edge_of, of_kind, record_of, size_of_kind, size_of, shortest, longest}
use Rattle.edge_records.specs.declared.Kind.{Kind}
use Rattle.edge_records.specs.declared.Kind.TheVariants as kind
use Rattle.edge_records.specs.declared.Record.{Record}
use Rattle.edge_records.specs.declared.Record.TheVariants as first

-- ---- a record of the kind that a head announces is as long as its head and the length, and no
-- longer than the longest
pub tagged_size : (t : ℕ) → size_of_kind (tagged t) ≡ 3 + length_of (tagged t)
unfolding tagged
tagged_size t = go (eqb t 1) (eqb t 127)
  where
    go : (x y : Bool) → size_of_kind (cond x kind.Arc (cond y kind.End kind.Unknown)) ≡ 3 + length_of (cond x kind.Arc (cond y kind.End kind.Unknown))
    go true y = refl
    go false true = refl
    go false false = refl

pub head_size : (t s : ℕ) → size_of_kind (head_of t s) ≡ 3 + length_of (head_of t s)
unfolding head_of
head_size t s = go (tagged t) (eqb s (length_of (tagged t))) (tagged_size t)
  where
    go : (k : Kind) (x : Bool) → size_of_kind k ≡ 3 + length_of k → size_of_kind (cond x k kind.Unknown) ≡ 3 + length_of (cond x k kind.Unknown)
    go k true e = e
    go k false e = refl

length_most : (k : Kind) → 3 + length_of k ≤ longest
length_most kind.Arc = omega arith
length_most kind.End = omega arith
length_most kind.Unknown = omega arith
length_most kind.Short = omega arith

-- ---- how many bytes a record takes
abbrev headed : ℕ → ℕ → ℕ → Kind
headed t a b = head_of t (low_first (a ∷ b ∷ []))

pub size_within : (file : List ℕ) → size_of file ≤ length file
unfolding size_of kind_of
size_within [] = omega arith
size_within (t ∷ []) = omega arith
size_within (t ∷ a ∷ []) = omega arith
size_within (t ∷ a ∷ b ∷ body) = go (headed t a b) (ltb (length body) (length_of (headed t a b))) (ltb-false (length body) (length_of (headed t a b))) (head_size t (low_first (a ∷ b ∷ [])))
  where
    go : (k : Kind) (x : Bool) → (x ≡ false → length_of k ≤ length body) → size_of_kind k ≡ 3 + length_of k → size_of_kind (cond x kind.Short k) ≤ suc (suc (suc (length body)))
    go k true h e = omega arith
    go k false h e = let l = h refl in omega arith

pub kind_long : (file : List ℕ) (k : Kind) → kind_of file ≡ k → size_of_kind k ≤ length file
unfolding size_of
kind_long file k e = subst (λ (j : Kind). size_of_kind j ≤ length file) e (size_within file)

three : (file : List ℕ) → 0 < size_of file → 3 ≤ length file
unfolding size_of kind_of
three [] h = absurd (omega arith)
three (t ∷ []) h = absurd (omega arith)
three (t ∷ a ∷ []) h = absurd (omega arith)
three (t ∷ a ∷ b ∷ body) h = omega arith

-- of as many bytes as the longest record has, the first record takes some
pub size_long : (file : List ℕ) → longest ≤ length file → 0 < size_of file
unfolding size_of kind_of
size_long [] l = absurd (omega arith)
size_long (t ∷ []) l = absurd (omega arith)
size_long (t ∷ a ∷ []) l = absurd (omega arith)
size_long (t ∷ a ∷ b ∷ body) l =
    rw (le-ltb (length body) (length_of (headed t a b)) (omega (arith, length_most (headed t a b)))) (omega (arith, head_size t (low_first (a ∷ b ∷ []))))

-- ---- the numbers of a body, whatever follows it
eight : (i : ℕ) (l rest : List ℕ) → i + 8 ≤ length l → take 8 (drop i (l ++ rest)) ≡ take 8 (drop i l)
eight i l rest h =
    ap (take 8) (drop-append-le i l rest (omega arith))
    ∙ take-append-le 8 (drop i l) rest (omega (arith, length-drop i l))

number_local : (i : ℕ) (l rest : List ℕ) → i + 8 ≤ length l → number_at i (l ++ rest) ≡ number_at i l
unfolding number_at
number_local i l rest h = ap (λ (m : List ℕ). of_pattern (low_first m)) (eight i l rest h)

point_local : (i : ℕ) (l rest : List ℕ) → i + 24 ≤ length l → point_at i (l ++ rest) ≡ point_at i l
unfolding point_at
point_local i l rest h = λ j. record {
  x = number_local i l rest (omega arith) j;
  y = number_local (i + 8) l rest (omega arith) j;
  z = number_local (i + 16) l rest (omega arith) j;
}

edge_local : (l rest : List ℕ) → length_of kind.Arc ≤ length l → edge_of (l ++ rest) ≡ edge_of l
unfolding edge_of
edge_local l rest h = λ j. record {
  arc = record {
    center = point_local 0 l rest (omega arith) j;
    axis = point_local 24 l rest (omega arith) j;
    radius = number_local 48 l rest (omega arith) j;
  };
  from = point_local 56 l rest (omega arith) j;
  to = point_local 80 l rest (omega arith) j;
}

-- ---- a whole record, whatever follows it
kind_local : (file rest : List ℕ) → 0 < size_of file → kind_of (file ++ rest) ≡ kind_of file
unfolding kind_of size_of
kind_local [] rest h = absurd (omega arith)
kind_local (t ∷ []) rest h = absurd (omega arith)
kind_local (t ∷ a ∷ []) rest h = absurd (omega arith)
kind_local (t ∷ a ∷ b ∷ body) rest h = go (headed t a b) (ltb (length body) (length_of (headed t a b))) (ltb-false (length body) (length_of (headed t a b))) h
  where
    go : (k : Kind) (x : Bool) → (x ≡ false → length_of k ≤ length body) → 0 < size_of_kind (cond x kind.Short k) → cond (ltb (length (body ++ rest)) (length_of k)) kind.Short k ≡ cond x kind.Short k
    go k true l s = absurd (omega arith)
    go k false l s = let m = l refl in simp (le-ltb (length (body ++ rest)) (length_of k) (omega (arith, length-append body rest)))

pub size_local : (file rest : List ℕ) → 0 < size_of file → size_of (file ++ rest) ≡ size_of file
unfolding size_of
size_local file rest h = ap size_of_kind (kind_local file rest h)

pub record_local : (file rest : List ℕ) → 0 < size_of file → record_of (file ++ rest) ≡ record_of file
unfolding record_of
record_local file rest h =
    ap (λ (k : Kind). of_kind k (drop 3 (file ++ rest))) (kind_local file rest h)
    ∙ ap (of_kind (kind_of file)) (drop-append-le 3 file rest (three file h))
    ∙ go (kind_of file) (kind_long file (kind_of file) refl)
  where
    go : (k : Kind) → size_of_kind k ≤ length file → of_kind k (drop 3 file ++ rest) ≡ of_kind k (drop 3 file)
    go kind.Arc l = ap first.Edge (edge_local (drop 3 file) rest (omega (arith, length-drop 3 file)))
    go kind.End l = refl
    go kind.Unknown l = refl
    go kind.Short l = refl

-- where no record stands whole
short_by : (k : Kind) (body : List ℕ) → size_of_kind k ≡ 0 → of_kind k body ≡ first.Malformed
short_by kind.Arc body e = absurd (omega arith)
short_by kind.End body e = absurd (omega arith)
short_by kind.Unknown body e = absurd (omega arith)
short_by kind.Short body e = refl

pub record_short : (file : List ℕ) → size_of file ≡ 0 → record_of file ≡ first.Malformed
unfolding record_of size_of
record_short file e = short_by (kind_of file) (drop 3 file) e

-- the bytes that a whole record takes are such a record by themselves
cut_whole : (file : List ℕ) → 0 < size_of file → 0 < size_of (take (size_of file) file)
unfolding size_of kind_of
cut_whole [] h = absurd (omega arith)
cut_whole (t ∷ []) h = absurd (omega arith)
cut_whole (t ∷ a ∷ []) h = absurd (omega arith)
cut_whole (t ∷ a ∷ b ∷ body) h = go (headed t a b) (ltb (length body) (length_of (headed t a b))) refl (ltb-false (length body) (length_of (headed t a b))) (head_size t (low_first (a ∷ b ∷ []))) h
  where
    go : (k : Kind) (x : Bool) → headed t a b ≡ k → (x ≡ false → length_of k ≤ length body) → size_of_kind k ≡ 3 + length_of k → 0 < size_of_kind (cond x kind.Short k)
        → 0 < size_of_kind (kind_of (take (size_of_kind (cond x kind.Short k)) (t ∷ a ∷ b ∷ body)))
    go k true e l z s = absurd (omega arith)
    go k false e l z s =
        let all : length (take (length_of k) body) ≡ length_of k = length-take-le (length_of k) body (l refl) in
        let size : size_of_kind k ≡ suc (suc (suc (length_of k))) = omega (arith, z) in
        unfold kind_of in rw (size, e, le-ltb (length (take (length_of k) body)) (length_of k) (omega (arith, all))) (omega (arith, z))

pub record_cut : (file : List ℕ) → 0 < size_of file → record_of (take (size_of file) file) ≡ record_of file
record_cut file h =
    sym (record_local (take (size_of file) file) (drop (size_of file) file) (cut_whole file h))
    ∙ ap record_of (take-append-drop (size_of file) file)

-- the record of an edge takes as many bytes as the shortest one at least, and the end takes some
abbrev pub Sized : Record → ℕ → Type 0
Sized (first.Edge e) n = shortest ≤ n
Sized first.End n = 0 < n
Sized first.Malformed n = Unit {0}

sized_by : (k : Kind) (body : List ℕ) → Sized (of_kind k body) (size_of_kind k)
sized_by kind.Arc body = omega arith
sized_by kind.End body = omega arith
sized_by kind.Unknown body = tt
sized_by kind.Short body = tt

pub sized : (file : List ℕ) → Sized (record_of file) (size_of file)
unfolding record_of size_of
sized file = sized_by (kind_of file) (drop 3 file)
