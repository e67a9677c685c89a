-- A file is read record by record: `stepped` is the law of one step, `left_over` that of what is
-- left. Then stepping through the records of a file gives the file's line (`by_steps`), and so does
-- reading it piece by piece, whatever the pieces are (`by_pieces`). Assumes nothing.
use Rattle.std.specs.Prelude.{ℕ, zero, suc, ◌≤◌, ◌<◌, ◌≡◌, Bool, true, not, Option, List, [], ◌∷◌, ◌++◌, T, ltb, eqb, length, take, drop}
use Rattle.std.proofs.Math.Path.{refl, sym}
use Rattle.std.proofs.Common.{ap, ◌∙◌, subst, append_assoc, append-nil, arith, ltb→lt, nltb→le, eqb→eq, T_not}
use Rattle.std.proofs.Math.Bool.{false}
use Rattle.std.specs.Float.Ieee.Fits.{eq→eqb}
use Rattle.std.proofs.Math.ListN.{length-append, length-drop}
use Rattle.std.proofs.lemmas.List.{drop-append-le}
use Rattle.checked.specs.Refusals.{MALFORMED_FILE}
use Rattle.checked.specs.Checked.{Due, due, refused}
use Rattle.boxes.specs.declared.Bounds.{Bounds}
use Rattle.edge_lines.specs.Lines.{refused_line}
use Rattle.edge_records.specs.declared.Record.{Record}
use Rattle.edge_records.specs.declared.Record.TheVariants as first
use Rattle.edge_records.specs.Records.{record_of, size_of, shortest, longest}
use Rattle.edge_records.specs.Laws.{Sized, sized, size_within, size_long, size_local, record_local, record_cut, record_short}
use Rattle.edge_file.specs.EdgeFile.{bounds_of, call_of, next, ended, called, by_record, line_from, line_of}
use Rattle.edge_file.specs.Steps.{State, Stand, Open, Ended, Refused, begun, line_by, line_on, called_on, record_on, step_by, step, due_by, due_of, refused_by, is_refused}
use Rattle.edge_file.specs.Cutting.{OpenAfter, cut_off, records_of, steps, joined, Run, over, stops, more}

-- ---- how many records there may be does not count, once they are enough
same_called : (f g : Option Bounds → List ℕ) (k : ℕ) (d : Due Bounds) → ((s : Option Bounds) → f s ≡ g s) → called f k d ≡ called g k d
same_called f g k (due b) h = h _
same_called f g k (refused n) h = refl

-- the bytes after a first record that is an edge's are fewer
abbrev Less : Record → List ℕ → List ℕ → Type 0
Less (first.Edge e) file after = length after < length file
Less first.End file after = Unit {0}
Less first.Malformed file after = Unit {0}

less_by : (r : Record) (file : List ℕ) (n : ℕ) → Sized r n → n ≤ length file → Less r file (drop n file)
less_by (first.Edge e) file n z h = omega (arith, length-drop n file)
less_by first.End file n z h = tt
less_by first.Malformed file n z h = tt

less : (file : List ℕ) → Less (record_of file) file (drop (size_of file) file)
less file = less_by (record_of file) file (size_of file) (sized file) (size_within file)

same_record : (f g : Option Bounds → ℕ → List ℕ → List ℕ) (seen : Option Bounds) (k : ℕ) (file after : List ℕ) (r : Record) → Less r file after → (length after < length file → (s : Option Bounds) → f s (next k) after ≡ g s (next k) after) → by_record f seen k after r ≡ by_record g seen k after r
same_record f g seen k file after (first.Edge e) l h = same_called (λ s. f s (next k) after) (λ s. g s (next k) after) k (call_of e (bounds_of seen)) (h l)
same_record f g seen k file after first.End l h = refl
same_record f g seen k file after first.Malformed l h = refl

-- no byte is left
no_record : (on : Option Bounds → ℕ → List ℕ → List ℕ) (seen : Option Bounds) (k : ℕ) (file after : List ℕ) → size_of file ≡ 0 → by_record on seen k after (record_of file) ≡ refused_line MALFORMED_FILE k
no_record on seen k file after e = ap (by_record on seen k after) (record_short file e)

none : (file : List ℕ) → length file ≤ 0 → size_of file ≡ 0
none file h = omega (arith, size_within file)

enough : (m n : ℕ) (seen : Option Bounds) (k : ℕ) (file : List ℕ) → length file ≤ m → length file ≤ n → line_from m seen k file ≡ line_from n seen k file
unfolding line_from
enough zero zero seen k file M N = refl
enough zero (suc n) seen k file M N = sym (no_record (line_from n) seen k file _ (none file M))
enough (suc m) zero seen k file M N = no_record (line_from m) seen k file _ (none file N)
enough (suc m) (suc n) seen k file M N =
    same_record (line_from m) (line_from n) seen k file (drop (size_of file) file) (record_of file) (less file)
    (λ l s. enough m n s (next k) (drop (size_of file) file) (omega arith) (omega arith))

-- the line by the first record, with as many records more as there are bytes after it
line_from_is : (seen : Option Bounds) (k : ℕ) (file : List ℕ) → line_from (length file) seen k file ≡ by_record (λ s j rest. line_from (length rest) s j rest) seen k (drop (size_of file) file) (record_of file)
unfolding line_from
line_from_is seen k [] = sym (no_record (λ s j rest. line_from (length rest) s j rest) seen k [] _ (none [] (omega arith)))
line_from_is seen k (b ∷ bs) =
    let after = drop (size_of (b ∷ bs)) (b ∷ bs) in
    same_record (line_from (length bs)) (λ s j rest. line_from (length rest) s j rest) seen k (b ∷ bs) after (record_of (b ∷ bs)) (less (b ∷ bs))
    (λ l s. enough (length bs) (length after) s (next k) after (omega arith) (omega arith))

-- ---- one step
abbrev reading : Option Bounds → ℕ → Stand → State
reading seen k st = record { seen = seen; number = k; stand = st }

by_call : (seen : Option Bounds) (k : ℕ) (d : Due Bounds) (left : List ℕ) → called (λ s. line_from (length left) s (next k) left) k d ≡ line_on (called_on (reading seen k Open) d) left
unfolding line_on
by_call seen k (due b) left = refl
by_call seen k (refused n) left = refl

by_first : (seen : Option Bounds) (k : ℕ) (after : List ℕ) (r : Record)
    → by_record (λ s j left. line_from (length left) s j left) seen k after r ≡ line_on (record_on (reading seen k Open) r) after
by_first seen k after (first.Edge e) = by_call seen k (call_of e (bounds_of seen)) after
by_first seen k after first.End = unfold line_on in refl
by_first seen k after first.Malformed = unfold line_on in refl

-- the first record takes as many bytes with and without those that follow it
open_step : (seen : Option Bounds) (k : ℕ) (file rest : List ℕ) → 0 < size_of file
    → line_from (length (file ++ rest)) seen k (file ++ rest) ≡ line_on (record_on (reading seen k Open) (record_of (take (size_of file) file))) (drop (size_of file) file ++ rest)
open_step seen k file rest h =
    line_from_is seen k (file ++ rest)
    ∙ by_first seen k (drop (size_of (file ++ rest)) (file ++ rest)) (record_of (file ++ rest))
    ∙ ap (λ (r : Record). line_on (record_on (reading seen k Open) r) (drop (size_of (file ++ rest)) (file ++ rest))) (record_local file rest h ∙ sym (record_cut file h))
    ∙ ap (line_on (record_on (reading seen k Open) (record_of (take (size_of file) file)))) (ap (λ (n : ℕ). drop n (file ++ rest)) (size_local file rest h) ∙ drop-append-le (size_of file) file rest (size_within file))

-- a byte stands after the end record
after_end : (seen : Option Bounds) (k : ℕ) (file : List ℕ) → 0 < length file → ended seen k file ≡ refused_line MALFORMED_FILE (next k)
unfolding ended
after_end seen k [] h = absurd (omega arith)
after_end seen k (b ∷ bs) h = refl

step_by_lem : (st : Stand) (seen : Option Bounds) (k : ℕ) (file rest : List ℕ) → 0 < due_by st file
    → line_by st seen k (file ++ rest) ≡ line_on (step_by st (reading seen k st) (take (due_by st file) file)) (drop (due_by st file) file ++ rest)
step_by_lem Open seen k file rest h = open_step seen k file rest h
step_by_lem Ended seen k file rest h = unfold line_on in after_end seen k (file ++ rest) (omega (arith, length-append file rest))
step_by_lem (Refused n) seen k file rest h = unfold line_on in refl

pub stepped : (r : State) (file rest : List ℕ) → 0 < due_of r file → line_on r (file ++ rest) ≡ line_on (step r (take (due_of r file) file)) (drop (due_of r file) file ++ rest)
unfolding line_on step due_of
stepped r file rest h = step_by_lem r.stand r.seen r.number file rest h

-- ---- what is left where no step is due
left_by : (st : Stand) (seen : Option Bounds) (k : ℕ) (file : List ℕ) → due_by st file ≡ 0 → line_by st seen k file ≡ line_by st seen k []
left_by Open seen k file e =
    line_from_is seen k file
    ∙ no_record (λ s j left. line_from (length left) s j left) seen k file _ e
    ∙ (unfold line_from in refl)
left_by Ended seen k [] e = refl
left_by Ended seen k (b ∷ bs) e = absurd (omega arith)
left_by (Refused n) seen k file e = refl

pub left_over : (r : State) (file : List ℕ) → due_of r file ≡ 0 → line_on r file ≡ line_on r []
unfolding line_on due_of
left_over r file e = left_by r.stand r.seen r.number file e

-- ---- a step takes no more than there is, and some of as many bytes as the longest record has
due_within_by : (st : Stand) (file : List ℕ) → due_by st file ≤ length file
due_within_by Open file = size_within file
due_within_by Ended file = omega arith
due_within_by (Refused n) file = omega arith

pub due_within : (r : State) (file : List ℕ) → due_of r file ≤ length file
unfolding due_of
due_within r file = due_within_by r.stand file

due_little_by : (st : Stand) (file : List ℕ) → due_by st file ≡ 0 → length file < longest
due_little_by Open file e = few (length file) (size_of file) (size_long file) e
  where
    few : (n s : ℕ) → (longest ≤ n → 0 < s) → s ≡ 0 → n < longest
    few n s h z = go (ltb n longest) (ltb→lt n longest) (λ t. h (nltb→le n longest t))
      where
        go : (b : Bool) → (T b → n < longest) → (T (not b) → 0 < s) → n < longest
        go true l g = l tt
        go false l g = let p = g tt in absurd (omega arith)
due_little_by Ended file e = omega arith
due_little_by (Refused n) file e = omega arith

pub due_little : (r : State) (file : List ℕ) → due_of r file ≡ 0 → length file < longest
unfolding due_of
due_little r file e = due_little_by r.stand file e

called_open : (r : State) (d : Due Bounds) (n : ℕ) → shortest ≤ n → OpenAfter (called_on r d).stand n
called_open r (due b) n h = h
called_open r (refused m) n h = tt

record_open : (r : State) (x : Record) (n : ℕ) → Sized x n → OpenAfter (record_on r x).stand n
record_open r (first.Edge e) n z = called_open r (call_of e (bounds_of r.seen)) n z
record_open r first.End n z = tt
record_open r first.Malformed n z = tt

step_open_by : (st : Stand) (r : State) (file : List ℕ) → r.stand ≡ st → 0 < due_by st file → OpenAfter (step_by st r (take (due_by st file) file)).stand (due_by st file)
step_open_by Open r file e h = subst (λ (x : Record). OpenAfter (record_on r x).stand (size_of file)) (sym (record_cut file h)) (record_open r (record_of file) (size_of file) (sized file))
step_open_by Ended r file e h = tt
step_open_by (Refused m) r file e h = subst (λ (s : Stand). OpenAfter s (length file)) (sym e) tt

pub step_open : (r : State) (file : List ℕ) → 0 < due_of r file → OpenAfter (step r (take (due_of r file) file)).stand (due_of r file)
unfolding step due_of
step_open r file h = step_open_by r.stand r file refl h

pub open_more : (st : Stand) (m n : ℕ) → m ≤ n → OpenAfter st m → OpenAfter st n
open_more Open m n l h = omega arith
open_more Ended m n l h = tt
open_more (Refused k) m n l h = tt

-- where no step is due, the reading is over and no byte is left, or it is open and an edge's record
-- was taken
none_due_by : (st : Stand) (used : ℕ) (bytes : List ℕ) → due_by st (drop used bytes) ≡ 0 → used ≤ length bytes → OpenAfter st used → length bytes ≤ shortest → used ≡ length bytes
none_due_by Open used bytes e w h l = omega arith
none_due_by Ended used bytes e w h l = omega (arith, length-drop used bytes)
none_due_by (Refused n) used bytes e w h l = omega (arith, length-drop used bytes)

pub none_due : (r : State) (used : ℕ) (bytes : List ℕ) → due_of r (drop used bytes) ≡ 0 → used ≤ length bytes → OpenAfter r.stand used → length bytes ≤ shortest → used ≡ length bytes
unfolding due_of
none_due r used bytes e w h l = none_due_by r.stand used bytes e w h l

-- a step on all that is left, where that is no whole record
last_by : (st : Stand) (seen : Option Bounds) (k : ℕ) (file : List ℕ) → 0 < length file → size_of file ≡ 0 → line_by st seen k file ≡ line_on (step_by st (reading seen k st) file) []
unfolding line_on line_from
last_by Open seen k file h e =
    left_by Open seen k file e
    ∙ sym (ap (λ (r : Record). line_on (record_on (reading seen k Open) r) []) (record_short file e))
last_by Ended seen k file h e = after_end seen k file h
last_by (Refused n) seen k file h e = refl

last : (r : State) (file : List ℕ) → 0 < length file → size_of file ≡ 0 → line_on r file ≡ line_on (step r file) []
unfolding line_on step
last r file h e = last_by r.stand r.seen r.number file h e

-- a step on a whole record, whatever the reading
whole_by : (st : Stand) (seen : Option Bounds) (k : ℕ) (file : List ℕ) → 0 < size_of file → line_by st seen k file ≡ line_on (step_by st (reading seen k st) (take (size_of file) file)) (drop (size_of file) file)
whole_by Open seen k file h =
    ap (line_by Open seen k) (sym (append-nil file))
    ∙ open_step seen k file [] h
    ∙ ap (line_on (record_on (reading seen k Open) (record_of (take (size_of file) file)))) (append-nil (drop (size_of file) file))
whole_by Ended seen k file h = unfold line_on in after_end seen k file (omega (arith, size_within file))
whole_by (Refused n) seen k file h = unfold line_on in refl

whole : (r : State) (file : List ℕ) → 0 < size_of file → line_on r file ≡ line_on (step r (take (size_of file) file)) (drop (size_of file) file)
unfolding line_on step
whole r file h = whole_by r.stand r.seen r.number file h

steps_line : (n : ℕ) (r : State) (file : List ℕ) → length file ≤ n → line_on (steps r (records_of n file)) [] ≡ line_on r file
unfolding steps records_of
steps_line zero r [] h = refl
steps_line zero r (b ∷ bs) h = absurd (omega arith)
steps_line (suc n) r [] h = refl
steps_line (suc n) r (b ∷ bs) h = go (eqb (size_of (b ∷ bs)) 0) (eqb→eq (size_of (b ∷ bs)) 0) (λ t. above (size_of (b ∷ bs)) (λ e. T_not (eqb (size_of (b ∷ bs)) 0) t (eq→eqb e))) (steps_line n)
  where
    above : (m : ℕ) → (m ≡ 0 → ⊥) → 0 < m
    above zero f = absurd (f refl)
    above (suc m) f = omega arith

    go : (x : Bool) → (T x → (size_of (b ∷ bs)) ≡ 0) → (T (not x) → 0 < (size_of (b ∷ bs))) → ((q : State) (f : List ℕ) → length f ≤ n → line_on (steps q (records_of n f)) [] ≡ line_on q f)
        → line_on (steps r (cut_off x (size_of (b ∷ bs)) (b ∷ bs) (records_of n))) [] ≡ line_on r (b ∷ bs)
    go true e p ih = unfold steps in sym (last r (b ∷ bs) (omega arith) (e tt))
    go false e p ih =
        unfold steps in
        ih (step r (take (size_of (b ∷ bs)) (b ∷ bs))) (drop (size_of (b ∷ bs)) (b ∷ bs)) (let s = p tt in omega (arith, length-drop (size_of (b ∷ bs)) (b ∷ bs)))
        ∙ sym (whole r (b ∷ bs) (p tt))

-- The records of a file, one step each, and then the line: the line of the file.
pub by_steps : (file : List ℕ) → line_on (steps begun (records_of (length file) file)) [] ≡ line_of file
unfolding line_on line_of
by_steps file = steps_line (length file) begun file (omega arith)

-- the first refusal ends the reading
refused_by_lem : (st : Stand) (seen : Option Bounds) (k : ℕ) (rest : List ℕ) → T (refused_by st) → line_by st seen k [] ≡ line_by st seen k rest
refused_by_lem Open seen k rest t = absurd t
refused_by_lem Ended seen k rest t = absurd t
refused_by_lem (Refused n) seen k rest t = refl

pub refusal_stays : (r : State) (rest : List ℕ) → T (is_refused r) → line_on r [] ≡ line_on r rest
unfolding line_on is_refused
refusal_stays r rest t = refused_by_lem r.stand r.seen r.number rest t

run_line : (r : State) (left : List ℕ) (pieces : List (List ℕ)) (line : List ℕ) → line_on r left ≡ line_on r [] → Run r left pieces line → line ≡ line_on r (left ++ joined pieces)
unfolding joined
run_line r left [] line e over = sym e ∙ ap (line_on r) (sym (append-nil left))
run_line r left pieces line e (stops t) = refusal_stays r (left ++ joined pieces) t
run_line r left (piece ∷ pieces) line e (more {q = q} {used = used} f run) =
    run_line q (drop used (left ++ piece)) pieces line f.over run
    ∙ f.on (joined pieces)
    ∙ ap (line_on r) (append_assoc left piece (joined pieces))

-- However a file comes in, the line is that of the file.
pub by_pieces : (pieces : List (List ℕ)) (line : List ℕ) → Run begun [] pieces line → line ≡ line_of (joined pieces)
by_pieces pieces line run = run_line begun [] pieces line refl run ∙ (unfold line_on line_of in refl)
