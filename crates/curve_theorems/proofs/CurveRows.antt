-- `Curve::inner_points`: one point fewer is due than there are chords, and these are at most 4,096. So a row of `CURVE_ROW`
-- numbers, three for each of 4,095 points, is never refused by 6, and a longer one changes no answer. Assumes nothing.
use Rattle.std.specs.Prelude.{ℕ, zero, suc, ◌-◌, ◌≤◌, ◌≡◌, refl, Bool, true, false, not, cond, ◌||◌, List, T, eqb, leb, Float}
use Rattle.std.proofs.Common.{sym, ◌∙◌, ap, subst, arith, eqb→eq}
use Rattle.std.specs.Float.Ieee.{lt}
use Rattle.checked.specs.Refusals.{BAD_TOLERANCE, ROW_TOO_SHORT, NOT_FINITE}
use Rattle.checked.specs.Checked.{Checked, first, Due, due, refused, settled, answered}
use Rattle.checked.specs.Answers.{and_then, number_of}
use Rattle.checked.specs.Tests.{fails, passing, neutral_test, chord_test}
use Rattle.checked.specs.Numbers as numbers
use Rattle.vectors.specs.declared.Vec3.{Vec3}
use Rattle.chord_counts.specs.Counts.{MOST}
use Rattle.chord_counts.specs.Laws.{count_limited}
use Rattle.arcs.specs.declared.Arc.{Arc}
use Rattle.arcs.specs.declared.chords.Cut.{Cut}
use Rattle.arcs.specs.Chords as arc_chords
use Rattle.arcs.specs.Entries as arcs
use Rattle.arc_theorems.specs.At.{off_length}
use Rattle.arc_theorems.specs.Inner.{is_none, points_of, rim_points}
use Rattle.arc_theorems.proofs.Inner.{inner_answer}
use Rattle.piece_lengths.specs.Counts.{chords_c}
use Rattle.piece_rows.specs.Inner.{inner_c, inners_due}
use Rattle.pieces.specs.Entries as pieces
use Rattle.curves.specs.declared.RolledAt.{RolledAt}
use Rattle.curves.specs.declared.Curve.{Curve}
use Rattle.curves.specs.declared.Curve.TheVariants as curve
use Rattle.curves.specs.Drawn.{CURVE_ROW, chords_of, ready, tests, piece_due, inner_points_due}
use Rattle.curve_theorems.specs.CurveRows.{held}
use Rattle.curve_theorems.specs.Arithmetic.{arithmetical, up_to_met, chords_of_met, inner_met}

-- ---- such a row holds the points
abbrev cut_of : Arc → Vec3 → Vec3 → Float → Checked Cut
cut_of a from to chord = arc_chords.cut_c a.center a.axis a.radius from to chord

arc_count : (a : Arc) (from to : Vec3) (chord : Float) → (cut_of a from to chord).value.chords ≤ MOST
unfolding arc_chords.cut_c
arc_count a from to chord = count_limited _ _ MOST (omega arith)

piece_count : (w : RolledAt) (chord : Float) → (chords_of w chord).value ≤ MOST
unfolding chords_of chords_c
piece_count w chord = count_limited _ _ MOST (omega arith)

-- ---- so the answer is that of any longer row
after_count_lem : {A : Type 0} (m : Checked A) (f g : A → Due (List Vec3)) → f m.value ≡ g m.value → and_then (answered m) f ≡ and_then (answered m) g
unfolding settled
after_count_lem m f g h = by m.refusal
  where
    by : (r : ℕ) → and_then (settled r m.value) f ≡ and_then (settled r m.value) g
    by zero = h
    by (suc r) = refl

pub same_answer : (c : Curve) (from to : Vec3) (chord : Float) (room : ℕ) → CURVE_ROW ≤ room → inner_points_due c from to chord room ≡ inner_points_due c from to chord CURVE_ROW
unfolding inner_points_due piece_due inners_due arcs.inner_points_due arc_chords.inners_due
same_answer (curve.Arc a) from to chord room h =
    let m = arc_count a from to chord in
    ap (passing _) (after_count_lem (cut_of a from to chord) _ _ (held room _ _ h m ∙ sym (held CURVE_ROW _ _ (omega arith) m)))
same_answer (curve.Rolled w) from to chord room h =
    let m = piece_count w chord in
    ap (passing _) (after_count_lem (chords_of w chord) _ _ (held room _ _ h m ∙ sym (held CURVE_ROW _ _ (omega arith) m)))

-- ---- and its number is not 6
unfoldable other : ℕ → Bool
other r = not (eqb r ROW_TOO_SHORT)

abbrev Other : ℕ → Type 0
Other r = T (other r)

differs : (r : ℕ) → (r ≡ ROW_TOO_SHORT → ⊥) → Other r
unfolding other
differs r h = by (eqb r ROW_TOO_SHORT) (λ e. h (eqb→eq r ROW_TOO_SHORT e))
  where
    by : (b : Bool) → (T b → ⊥) → T (not b)
    by true h = h tt
    by false h = tt

first_other : (a b : ℕ) → Other a → Other b → Other (first a b)
unfolding first
first_other zero b p q = q
first_other (suc a) b p q = p

-- a test of what is handed in has a lower number
fails_other : (n : ℕ) (holds : Bool) → T (leb n BAD_TOLERANCE) → Other (fails n holds)
unfolding fails other
fails_other n true h = tt
fails_other n false h = differs n (λ e. subst (λ (m : ℕ). T (leb m BAD_TOLERANCE)) e h)

ruleset tested = (first_other, fails_other)

tests_other : (w : RolledAt) (from to : Vec3) (chord : Float) → Other (tests w from to chord)
unfolding tests pieces.tests neutral_test chord_test
tests_other w from to chord = search tested depth 10

-- and what the arithmetic meets a higher one
by_arithmetic : (r : ℕ) → T (arithmetical r) → Other r
unfolding arithmetical
by_arithmetic r h = differs r (λ e. subst (λ (n : ℕ). T (arithmetical n)) e h)

settled_other : {A : Type 0} (r : ℕ) (a : A) → Other r → Other (number_of (settled r a))
unfolding settled
settled_other zero a h = h
settled_other (suc r) a h = h

passing_other : {A : Type 0} (r : ℕ) (rest : Due A) → Other r → Other (number_of rest) → Other (number_of (passing r rest))
unfolding passing
passing_other zero rest p q = q
passing_other (suc r) rest p q = p

after_other : {A B : Type 0} (m : Checked A) (f : A → Due B) → Other m.refusal → Other (number_of (f m.value)) → Other (number_of (and_then (answered m) f))
unfolding settled
after_other m f p q = by m.refusal p
  where
    by : (r : ℕ) → Other r → Other (number_of (and_then (settled r m.value) f))
    by zero h = q
    by (suc r) h = h

-- an arc meets 9 or nothing
arc_other : (a : Arc) (from to : Vec3) (chord : Float) (room : ℕ) → CURVE_ROW ≤ room → Other (number_of (arcs.inner_points_due a from to chord room))
unfolding chord_test
arc_other a from to chord room h =
    subst (λ (d : Due (List Vec3)). Other (number_of d)) (sym (inner_answer a from to chord room))
    (passing_other _ _ (search tested)
    (subst (λ (d : Due (List Vec3)). Other (number_of d)) (sym (held room _ _ h (arc_count a from to chord)))
    (by (is_none (points_of a from to chord) || lt numbers.zero (off_length a.center a.axis from)) (rim_points a from to chord))))
  where
    by : (b : Bool) (ps : List Vec3) → Other (number_of (cond b (due ps) (refused NOT_FINITE)))
    by true ps = differs 0 (λ e. omega arith)
    by false ps = differs NOT_FINITE (λ e. omega arith)

piece_other : (w : RolledAt) (from to : Vec3) (chord : Float) (room : ℕ) → CURVE_ROW ≤ room → Other (number_of (piece_due w from to chord room))
unfolding piece_due inners_due
piece_other w from to chord room h =
    let n = (chords_of w chord).value in
    passing_other _ _ (tests_other w from to chord)
    (after_other (chords_of w chord) _ (by_arithmetic _ (chords_of_met w chord))
    (subst (λ (d : Due (List Vec3)). Other (number_of d)) (sym (held room n _ h (piece_count w chord)))
    (settled_other _ _ (by_arithmetic _ (up_to_met (inner_c (ready w) n) (inner_met (ready w) n) (n - 1))))))

-- `Curve::inner_points` with such a row is never refused by 6
pub row_suffices : (c : Curve) (from to : Vec3) (chord : Float) (room : ℕ) → CURVE_ROW ≤ room → number_of (inner_points_due c from to chord room) ≡ ROW_TOO_SHORT → ⊥
unfolding inner_points_due other
row_suffices (curve.Arc a) from to chord room h e = subst (λ (n : ℕ). Other n) e (arc_other a from to chord room h)
row_suffices (curve.Rolled w) from to chord room h e = subst (λ (n : ℕ). Other n) e (piece_other w from to chord room h)
