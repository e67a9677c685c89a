-- Files of arcs none of which is refused: the line is that of the box that their calls leave,
-- whichever arc stands first. Assumes nothing.
use Rattle.std.specs.Prelude.{ℕ, zero, suc, ◌+◌, ◌-◌, ◌*◌, ◌/◌, ◌<◌, ◌≤◌, ◌≡◌, refl, ◌||◌, List, [], ◌∷◌, map, eqb, length, drop, Float, Option, Some, None}
use Rattle.std.proofs.Common.{mul_comm, mul_assoc, add-mul, arith, sym, ◌∙◌, ap₂, subst, eqb→eq, length-drop}
use Rattle.std.proofs.Math.Nat.{mul-div-mul_right}
use Rattle.std.proofs.Math.Path.{ap}
use Rattle.std.specs.Bool.{beq}
use Rattle.std.specs.Float.{nan, inf, fin}
use Rattle.std.specs.Float.Ieee.{eq, up, down}
use Rattle.std.specs.Float.Ieee.Fits.{and_l, down_pos}
use Rattle.checked.specs.Checked.{Due, due, refused}
use Rattle.checked.specs.Answers.{after}
use Rattle.order.specs.Least.{negative}
use Rattle.order.specs.Extremes.{Same}
use Rattle.vectors.specs.declared.Vec3.{Vec3}
use Rattle.boxes.specs.declared.Bounds.{Bounds}
use Rattle.boxes.specs.Boxes.{X, Y, Z, empty}
use Rattle.boxes.proofs.Laws.{empty_free}
use Rattle.boxes.specs.Demand3.{answer, SameAccepted}
use Rattle.arcs.specs.Entries.{extend_due}
use Rattle.box_calls.specs.BoxCalls as calls
use Rattle.box_calls.specs.BoxCalls.{Call, ByArc, edge, call_due, run, answers, handed, points, box_calls_met}
use Rattle.decimals.specs.Thousandths.{thousandths, nearest_up, counted}
use Rattle.edge_lines.specs.Lines.{corner, box_line}
use Rattle.edge_records.specs.declared.Edge.{Edge}
use Rattle.edge_records.specs.declared.Record.{Record}
use Rattle.edge_records.specs.declared.Record.TheVariants as first
use Rattle.edge_records.specs.Records.{record_of, size_of, shortest}
use Rattle.edge_records.specs.Laws.{Sized, sized, size_within}
use Rattle.edge_file.specs.EdgeFile.{bounds_of, next, call_of, printed, ended, called, by_record, line_from, line_of}

-- ================ the claim

-- the box call that a record asks for
abbrev pub as_call : Edge → Call
as_call e = ByArc e.arc e.from e.to

-- a file that holds these arcs, then its end record and nothing more
pub data FileOf : List ℕ → List Edge → Type 0 where
  ends : {file : List ℕ} → record_of file ≡ first.End → drop (size_of file) file ≡ [] → FileOf file []
  arc : {file : List ℕ} {e : Edge} {es : List Edge} → record_of file ≡ first.Edge e → FileOf (drop (size_of file) file) es → FileOf file (e ∷ es)

-- each is accepted on the empty box
abbrev pub NoneRefused : List Edge → Type 0
NoneRefused [] = Unit
NoneRefused (e ∷ es) = (answer (call_due (as_call e) empty) ≡ due tt) × NoneRefused es

-- the box that the calls leave of the empty box
abbrev pub box_of : List Edge → Bounds
box_of es = run empty (map as_call es)

-- the number of the end record
abbrev pub end_after : ℕ → List Edge → ℕ
end_after k [] = k
end_after k (e ∷ es) = end_after (next k) es

-- the line of a file with at least one arc is that of this box
pub record Printed (file : List ℕ) (es : List Edge) : Type 0 where
  pub line : line_of file ≡ box_line (box_of es).low (box_of es).high (end_after 1 es)

-- ================ the proof

-- ---- along the file
abbrev seen_after : Option Bounds → List Edge → Option Bounds
seen_after seen [] = seen
seen_after seen (e ∷ es) = seen_after (Some (after (bounds_of seen) (call_due (as_call e) (bounds_of seen)))) es

abbrev all_due : List Edge → List (Due Unit)
all_due [] = []
all_due (e ∷ es) = due tt ∷ all_due es

head_of : (xs ys : List (Due Unit)) (x y : Due Unit) → x ∷ xs ≡ y ∷ ys → x ≡ y
head_of xs ys x y e = cc

tail_of : (xs ys : List (Due Unit)) (x y : Due Unit) → x ∷ xs ≡ y ∷ ys → xs ≡ ys
tail_of xs ys x y e = cc

goes_on : (on : Option Bounds → List ℕ) (k : ℕ) (b : Bounds) (d : Due Bounds) → answer d ≡ due tt → called on k d ≡ on (Some (after b d))
goes_on on k b (due c) e = refl
goes_on on k b (refused n) e = absurd (let z : ◌≡◌ {A = ℕ} 0 1 = cc in omega arith)

along : (n : ℕ) {file : List ℕ} {es : List Edge} → FileOf file es → (seen : Option Bounds) (k : ℕ) → length es < n → answers (bounds_of seen) (map as_call es) ≡ all_due es
    → line_from n seen k file ≡ printed (seen_after seen es) (end_after k es)
unfolding line_from answers extend_due
along zero f seen k h a = absurd (omega arith)
along (suc n) {file} (ends r d) seen k h a =
    ap (by_record (line_from n) seen k (drop (size_of file) file)) r ∙ (unfold ended in ap (ended seen k) d)
along (suc n) {file} (arc {e = e} {es = es} r f) seen k h a =
    let mine = head_of _ _ _ _ a in
    let rest = tail_of _ _ _ _ a in
    ap (by_record (line_from n) seen k (drop (size_of file) file)) r
    ∙ goes_on (λ s. line_from n s (next k) (drop (size_of file) file)) k (bounds_of seen) (call_of e (bounds_of seen)) mine
    ∙ along n f (Some (after (bounds_of seen) (call_due (as_call e) (bounds_of seen)))) (next k) (omega arith) rest

-- a file has more bytes than arcs
longer : {file : List ℕ} {es : List Edge} → FileOf file es → length es < length file
longer {file} (ends r d) = few (size_of file) (length file) (subst (λ (x : Record). Sized x (size_of file)) r (sized file)) (size_within file)
  where
    few : (n m : ℕ) → 0 < n → n ≤ m → 0 < m
    few n m e h = omega arith
longer {file} (arc {es = es} r f) = more (size_of file) (length file) (subst (λ (x : Record). Sized x (size_of file)) r (sized file)) (size_within file) (rw (length-drop (size_of file) file) at (longer f))
  where
    more : (n m : ℕ) → shortest ≤ n → n ≤ m → length es < m - n → suc (length es) < m
    more n m e h l = omega arith

-- the answers of a list none of which is refused
all_due_lem : (es : List Edge) → NoneRefused es → map (λ c. answer (call_due c empty)) (map as_call es) ≡ all_due es
all_due_lem [] h = refl
all_due_lem (e ∷ es) h = ap₂ (λ (x : Due Unit) (xs : List (Due Unit)). x ∷ xs) h.0 (all_due_lem es h.1)

box_after : (b : Bounds) (es : List Edge) → seen_after (Some b) es ≡ Some (run b (map as_call es))
unfolding run
box_after b [] = refl
box_after b (e ∷ es) = box_after (after b (call_due (as_call e) b)) es

-- The line of a file of arcs none of which is refused.
pub file_line : {file : List ℕ} (e : Edge) (es : List Edge) → FileOf file (e ∷ es) → NoneRefused (e ∷ es) → Printed file (e ∷ es)
unfolding line_of run
file_line {file} e es f h = record {
  line =
      along (length file) f None 1 (longer f) ((box_calls_met empty empty_free (map as_call (e ∷ es))).each ∙ all_due_lem (e ∷ es) h)
      ∙ ap (λ (s : Option Bounds). printed s (end_after 1 (e ∷ es))) (box_after (after empty (call_due (as_call e) empty)) es);
}

-- ---- the same box has the same thousandths
nearest_same : (a p b q : ℕ) → 0 < p → 0 < q → a * q ≡ b * p → nearest_up (1000 * a) p ≡ nearest_up (1000 * b) q
nearest_same a p b q P Q e =
    sym (mul-div-mul_right (2 * (1000 * a) + p) (2 * p) Q)
    ∙ ap₂ (λ (x y : ℕ). x / y) (tops a p b q e) (bottoms p q)
    ∙ mul-div-mul_right (2 * (1000 * b) + q) (2 * q) P
  where
    bottoms : (p q : ℕ) → 2 * p * q ≡ 2 * q * p
    bottoms p q = mul_assoc 2 p q ∙ ap (λ (x : ℕ). 2 * x) (mul_comm p q) ∙ sym (mul_assoc 2 q p)

    tops : (a p b q : ℕ) → a * q ≡ b * p → (2 * (1000 * a) + p) * q ≡ (2 * (1000 * b) + q) * p
    tops a p b q e =
        add-mul (2 * (1000 * a)) p q
        ∙ ap₂ (λ (x y : ℕ). x + y) (scaled a q ∙ ap (λ (x : ℕ). 2 * (1000 * x)) e ∙ sym (scaled b p)) (mul_comm p q)
        ∙ sym (add-mul (2 * (1000 * b)) q p)
      where
        scaled : (a q : ℕ) → 2 * (1000 * a) * q ≡ 2 * (1000 * (a * q))
        scaled a q = mul_assoc 2 (1000 * a) q ∙ ap (λ (x : ℕ). 2 * x) (mul_assoc 1000 a q)

thousandths_same : (x y : Float) → Same x y → thousandths x ≡ thousandths y
unfolding thousandths eq negative
thousandths_same nan y h = absurd h.0
thousandths_same (inf s) nan h = absurd h.0
thousandths_same (inf s) (inf t) h = refl
thousandths_same (inf s) (fin t n d) h = absurd h.0
thousandths_same (fin s m e) nan h = absurd h.0
thousandths_same (fin s m e) (inf t) h = absurd h.0
thousandths_same (fin s m e) (fin t n d) h =
    ap₂ counted h.1
    (nearest_same (m * up e) (down e) (n * up d) (down d) (down_pos e) (down_pos d)
    (eqb→eq (m * up e * down d) (n * up d * down e) (and_l (eqb (m * up e * down d) (n * up d * down e)) (beq s t || eqb (m * up e * down d) 0) h.0)))

same_corners : (a b c d : Vec3) (j k : ℕ) → thousandths a.x ≡ thousandths b.x → thousandths a.y ≡ thousandths b.y → thousandths a.z ≡ thousandths b.z
    → thousandths c.x ≡ thousandths d.x → thousandths c.y ≡ thousandths d.y → thousandths c.z ≡ thousandths d.z → j ≡ k → box_line a c j ≡ box_line b d k
unfolding box_line corner
same_corners a b c d j k p q r s t u e = rw (p, q, r, s, t, u, e)

-- Two files of the same arcs, none of them refused, and of the same number of records print the
-- same line, whichever arc stands first.
pub one_line : {f g : List ℕ} (c e : Edge) (cs es : List Edge) → FileOf f (c ∷ cs) → FileOf g (e ∷ es) → NoneRefused (c ∷ cs) → NoneRefused (e ∷ es)
    → SameAccepted handed points (map edge (map as_call (c ∷ cs))) (map edge (map as_call (e ∷ es))) → end_after 1 (c ∷ cs) ≡ end_after 1 (e ∷ es) → line_of f ≡ line_of g
one_line c e cs es F G H J A n =
    let b = calls.same_box empty empty_free (map as_call (c ∷ cs)) (map as_call (e ∷ es)) A in
    (file_line c cs F H).line
    ∙ same_corners (box_of (c ∷ cs)).low (box_of (e ∷ es)).low (box_of (c ∷ cs)).high (box_of (e ∷ es)).high _ _ (thousandths_same _ _ (b.low X)) (thousandths_same _ _ (b.low Y)) (thousandths_same _ _ (b.low Z)) (thousandths_same _ _ (b.high X)) (thousandths_same _ _ (b.high Y)) (thousandths_same _ _ (b.high Z)) n
    ∙ sym (file_line e es G J).line
