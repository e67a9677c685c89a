-- The line of a well-formed file of arcs whose numbers are in range: `empty`, `box` with six
-- numbers, or a refusal by 10 at printing. No other refusal is met. Assumes nothing.

use Rattle.std.specs.Prelude.{ℕ, ◌≡◌, List, [], ◌∷◌, T, length, drop, None}
use Rattle.std.proofs.Common.{arith, sym, ap, ◌∙◌, subst}
use Rattle.std.specs.Float.Ieee.Bits.{is_true}
use Rattle.checked.specs.Refusals.{OUT_OF_RANGE, BAD_BOX_OR_SUMS}
use Rattle.checked.specs.Checked.{first, Due, due, refused}
use Rattle.checked.specs.Tests.{fails, ◌or◌, passing}
use Rattle.vectors.specs.declared.Vec3.{Vec3}
use Rattle.boxes.specs.Boxes.{free, empty, widened_by}
use Rattle.boxes.proofs.Laws.{empty_free}
use Rattle.boxes.specs.Demand3.{answer}
use Rattle.arcs.specs.Sweep.{ends_within}
use Rattle.arcs.specs.Entries.{points}
use Rattle.box_calls.specs.BoxCalls.{call_due}
use Rattle.edge_lines.specs.Lines.{bytes, corner, empty_line, refused_line, corners_line, box_line}
use Rattle.edge_lines.specs.Laws.{TooLarge, corner_large}
use Rattle.edge_records.specs.declared.Edge.{Edge}
use Rattle.edge_records.specs.declared.Record.TheVariants as first
use Rattle.edge_records.specs.Records.{record_of, size_of, kind_of}
use Rattle.edge_file.specs.EdgeFile.{ended, by_record, line_from, line_of}
use Rattle.edge_theorems.specs.FileBoxes.{FileOf, ends, NoneRefused, as_call, file_line}
use Rattle.arc_theorems.proofs.Points.{extend_answer}
use Rattle.edge_theorems.specs.ArcFiles.{InRange, Line, none, box, too_large}

-- ================ the proof

-- ---- a box call with an arc in range is accepted on the empty box
accepted : (e : Edge) → T (ends_within e.arc.center e.arc.axis e.arc.radius e.from e.to) → answer (call_due (as_call e) empty) ≡ due tt
unfolding first fails passing
accepted e h =
    ap answer (
    extend_answer e.arc e.from e.to empty
    ∙ λ i. passing (fails OUT_OF_RANGE (is_true (ends_within e.arc.center e.arc.axis e.arc.radius e.from e.to) h i) or fails BAD_BOX_OR_SUMS (is_true (free empty) empty_free i)) (due (widened_by empty (points e.arc e.from e.to).value))
    )

all_accepted : (es : List Edge) → InRange es → NoneRefused es
all_accepted [] h = h
all_accepted (e ∷ es) h = (accepted e h.0, all_accepted es h.1)

-- ---- printing refuses by 10 and by nothing else
corners_line_lem : (k : ℕ) (d : Due (List ℕ)) → TooLarge d → Line (corners_line k d)
corners_line_lem k (due text) h = box text
corners_line_lem k (refused n) h = subst (λ (m : ℕ). Line (refused_line m k)) (sym h) (too_large k)

box_line_lem : (low high : Vec3) (k : ℕ) → Line (box_line low high k)
unfolding box_line
box_line_lem low high k = corners_line_lem k (corner low (corner high (due (bytes "\n")))) (corner_large low _ (corner_large high (due (bytes "\n")) tt))

-- ---- a file with no arc
no_end : record_of [] ≡ first.End → ⊥
unfolding record_of kind_of
no_end e = let z : ◌≡◌ {A = ℕ} 0 1 = cc in omega arith

no_arc : (file : List ℕ) → record_of file ≡ first.End → drop (size_of file) file ≡ [] → line_of file ≡ empty_line
unfolding line_of line_from ended
no_arc [] r d = absurd (no_end r)
no_arc (b ∷ bs) r d = ap (by_record (line_from (length bs)) None 1 (drop (size_of (b ∷ bs)) (b ∷ bs))) r ∙ ap (ended None 1) d

pub line_of_arcs : {file : List ℕ} (es : List Edge) → FileOf file es → InRange es → Line (line_of file)
line_of_arcs {file} [] (ends r d) h = subst Line (sym (no_arc file r d)) none
line_of_arcs {file} (e ∷ es) f h = subst Line (sym (file_line e es f (all_accepted (e ∷ es) h)).line) (box_line_lem _ _ _)
