-- The file that a reading has taken so far. Assumes nothing.
use Prim.Native.Nat.{ℕ}
use mathlib.Core.Path.{◌≡◌, refl, sym, ap, ◌∙◌}
use mathlib.Core.Bool.{Bool, true, false, not, ◌&&◌, true≢false}
use mathlib.Core.List.{List, [], ◌++◌, append-nil, append_assoc}
use native.Mathlib.Omega.{arith}
use lib.Dec.{eqb}
use lib.ListN.{length, drop, drop_of_length-le}
use borrow.Author.Tests.{eqb-true}
use Rattle.edge_records.specs.Records.{shortest}
use Rattle.edge_file.specs.EdgeFile.{line_of}
use Rattle.edge_file.specs.Steps.{State, begun, line_on, is_refused, Fed}
use Rattle.edgebox.specs.Input.{Took, is_due, HasRead}

pub took : (r q : State) (bytes : List ℕ) (used : ℕ) → Fed r bytes q used → Took r bytes q
took r q bytes used f = record {
  on = λ e rest. ap (λ (l : List ℕ). line_on q (l ++ rest)) (sym (none e)) ∙ f.on rest;
  over = sym f.over ∙ ap (line_on q) (sym (append-nil (drop used bytes))) ∙ f.on [] ∙ ap (line_on r) (append-nil bytes);
}
  where
    none : length bytes ≡ shortest → drop used bytes ≡ []
    none e =
        let all : used ≡ length bytes = f.whole (omega arith) (omega (arith, f.little)) in
        drop_of_length-le bytes {i = used} (omega arith)

-- The reading r has taken a file: whatever follows, the line is that of the file with it.
pub record Standing (r : State) : Type 0 where
  pub file : List ℕ
  pub on : (rest : List ℕ) → line_on r rest ≡ line_of (file ++ rest)

begun_line : (rest : List ℕ) → line_on begun rest ≡ line_of rest
unfolding line_on line_of
begun_line rest = refl

pub stands_begun : (r : State) → r ≡ begun → Standing r
stands_begun r e = record { file = []; on = λ rest. ap (λ (q : State). line_on q rest) e ∙ begun_line rest }

whole_read : (q : State) (bytes : List ℕ) → is_due q bytes ≡ true → length bytes ≡ shortest
whole_read q bytes e = go (is_refused q) e
  where
    go : (x : Bool) → (not x && eqb (length bytes) shortest) ≡ true → length bytes ≡ shortest
    go true h = absurd (true≢false (sym h))
    go false h = eqb-true (length bytes) shortest h

pub stands_more : (r q : State) (bytes : List ℕ) → Standing r → Took r bytes q → is_due q bytes ≡ true → Standing q
stands_more r q bytes s t e = record {
  file = s.file ++ bytes;
  on = λ rest. t.on (whole_read q bytes e) rest ∙ s.on (bytes ++ rest) ∙ ap line_of (sym (append_assoc s.file bytes rest));
}

pub stands_last : (r q : State) (bytes : List ℕ) → Standing r → Took r bytes q → HasRead q
stands_last r q bytes s t = (s.file ++ bytes, t.over ∙ s.on bytes)

pub stands_over : (r : State) → Standing r → HasRead r
stands_over r s = (s.file, s.on [] ∙ ap line_of (append-nil s.file))
