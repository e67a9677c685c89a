-- Opening a face's sums, adding each of its paths in turn and closing them gives what `revolution`
-- gives over the list of the paths. Where all that is handed in passes its tests the answers are
-- the same, refusals too; and one is accepted only where the other is. (A call can't know what
-- later ones are handed: where a path fails a test, an earlier one may have been refused by a
-- higher number.)
use Rattle.std.specs.Prelude.{ℕ, zero, suc, ◌≡◌, Bool, false, ◌&&◌}
use Rattle.std.proofs.Math.Path.{refl, sym, ap}
use Rattle.std.proofs.Common.{◌∙◌}
use Rattle.std.proofs.Math.Bool.{true}
use mathlib.Core.List.{List, [], ◌∷◌}
use Rattle.std.specs.Float.Ieee.{of_bits}
use Rattle.std.specs.Float.Ieee.Bits.{is_true}
use Rattle.checked.specs.PatternLaws.{yes}
use Rattle.checked.specs.Checked.{Checked, first, is_finite, Due, due, refused, settled, answered}
use Rattle.checked.specs.Answers.{and_then}
use Rattle.checked.specs.Tests.{passing}
use Rattle.checked.specs.TestsLaws.{passing_none, fails_none, never, holds, accepted as tests_accepted}
use Rattle.checked.specs.Laws.{first_none, zero_first}
use Rattle.vectors.specs.declared.Vec3.{Vec3}
use Rattle.vectors.specs.Vectors.{is_finite3, within3}
use Rattle.cones.specs.declared.Cone.{Cone}
use Rattle.cones.specs.Entries.{cone_within}
use Rattle.integrals.specs.declared.Integrals.{Integrals}
use Rattle.integrals.specs.Sums.{finite_surface, finite_sums, nothing}
use Rattle.integrals.specs.Laws.{FiniteSums}
use Rattle.checked.specs.Lists.{fold_list_c, list_sound, list_once}
use Rattle.integrals.specs.declared.integrands.Revolved.{Revolved}
use Rattle.integrals.specs.Integrands.{revolved_c}
use Rattle.integrals.specs.Sound.{path_sound}
use Rattle.face_paths.specs.ArcPaths.{arc_path_at, arc_path_c}
use Rattle.face_paths.specs.PiecePaths.{piece_path_at}
use Rattle.face_paths.specs.Paths.{piece_path_c}
use Rattle.revolutions.specs.Closings.{close_c, close_due}
use Rattle.revolutions.specs.Revolutions.{Path, arc, piece, path_within, path_neutral, path_single, lies_on, path_c, sums_c, revolution_c, every, tests, face_within, revolution_due, open_due, add_c, add_due, added_in_turn, in_turn}

-- ---- sums stay finite
each_sound : (v : Revolved) (p : Path) (s : Integrals) → (path_c v p s).refusal ≡ 0 → FiniteSums s → FiniteSums (path_c v p s).value
unfolding path_c arc_path_c piece_path_c finite_sums
each_sound v (arc a from to) s e g = path_sound v (arc_path_at _) _ s.surface (first_none _ _ (first_none _ _ e).1).0 g
each_sound v (piece p) s e g = path_sound v (piece_path_at _) _ s.surface (first_none _ _ (first_none _ _ (first_none _ _ e).1).1).0 g

add_sound : (cone : Cone) (o : Vec3) (p : Path) (s : Integrals) → (add_c cone o p s).refusal ≡ 0 → FiniteSums s → FiniteSums (add_c cone o p s).value
unfolding add_c
add_sound cone o p s e g = each_sound (revolved_c cone o).value p s (first_none _ _ e).1 g

nothing_finite : FiniteSums nothing
unfolding finite_sums finite_surface is_finite3 is_finite of_bits
nothing_finite = tt

-- ---- tests
both : (a b : Bool) → (a && b) ≡ true → (a ≡ true) × (b ≡ true)
both true b h = (refl, h)
both false b h = absurd (yes h)

-- all five hold
abbrev Passed : Bool → Bool → Bool → Bool → Bool → Type 0
Passed a p s f l = (a ≡ true) × ((p ≡ true) × ((s ≡ true) × ((f ≡ true) × (l ≡ true))))

tests_none : (a p s f l : Bool) → Passed a p s f l → tests a p s f l ≡ 0
unfolding tests
tests_none a p s f l h = simp (h.0, h.1.0, h.1.1.0, h.1.1.1.0, h.1.1.1.1, fails_none, zero_first)

tests_passed : (a p s f l : Bool) → tests a p s f l ≡ 0 → Passed a p s f l
unfolding tests
tests_passed a p s f l h =
    let seven = first_none _ _ h in
    let four = first_none _ _ seven.0 in
    let three = first_none _ _ four.0 in
    let two = first_none _ _ three.0 in
    (holds 0 a two.0, (holds 1 p two.1, (holds 2 s three.1, (holds 3 f four.1, holds 6 l seven.1))))

-- 1, 2, 3 and 7 of a path, and of every path
abbrev Fit : Cone → Path → Type 0
Fit cone p = (path_within p ≡ true) × ((path_neutral p ≡ true) × ((path_single p ≡ true) × (lies_on cone p ≡ true)))

abbrev AllFit : Cone → List Path → Type 0
AllFit cone ps = (every path_within ps ≡ true) × ((every path_neutral ps ≡ true) × ((every path_single ps ≡ true) × (every (lies_on cone) ps ≡ true)))

-- ---- one call after the other
then_settled : {A B : Type 0} (r : ℕ) (a : A) (rest : A → Due B) (m : Checked B) → (r ≡ 0 → rest a ≡ answered m) → and_then (settled r a) rest ≡ settled (first r m.refusal) m.value
unfolding settled first
then_settled zero a rest m h = h refl
then_settled (suc r) a rest m h = refl

then_due : {A B : Type 0} (d : Due A) (rest : A → Due B) (t : B) (C : Type 0) → and_then d rest ≡ due t → ((a : A) → d ≡ due a → rest a ≡ due t → C) → C
then_due (due a) rest t C h k = k a refl h
then_due (refused n) rest t C h k = absurd (never n t h)

module _ (cone : Cone) (o : Vec3) where
  -- each path works out the surface for itself, which is as good as once
  each_is : (ps : List Path) → fold_list_c (add_c cone o) ps nothing ≡ sums_c cone o ps
  unfolding sums_c add_c
  each_is [] = unfold fold_list_c in refl
  each_is (p ∷ ps) = list_once (path_c (revolved_c cone o).value) (revolved_c cone o).refusal p ps nothing

  module _ (face : face_within cone o ≡ true) where
    add_is : (p : Path) (s : Integrals) → Fit cone p → FiniteSums s → add_due cone o p s ≡ answered (add_c cone o p s)
    unfolding add_due
    add_is p s t f = passing_none _ _ (tests_none (face_within cone o && path_within p) (path_neutral p) (path_single p) (finite_sums s) (lies_on cone p) (simp (face, t.0), (t.1.0, (t.1.1.0, (is_true (finite_sums s) f, t.1.1.1)))))

    added_are : (ps : List Path) (s : Integrals) → AllFit cone ps → FiniteSums s → added_in_turn cone o ps s ≡ answered (fold_list_c (add_c cone o) ps s)
    unfolding added_in_turn every fold_list_c
    added_are [] s t f = unfold settled in refl
    added_are (p ∷ ps) s t f =
        let one = both (path_within p) (every path_within ps) t.0 in
        let two = both (path_neutral p) (every path_neutral ps) t.1.0 in
        let three = both (path_single p) (every path_single ps) t.1.1.0 in
        let seven = both (lies_on cone p) (every (lies_on cone) ps) t.1.1.1 in
        let m = add_c cone o p s in
        ap (λ (d : Due Integrals). and_then d (added_in_turn cone o ps)) (add_is p s (one.0, (two.0, (three.0, seven.0))) f)
        ∙ then_settled m.refusal m.value (added_in_turn cone o ps) (fold_list_c (add_c cone o) ps m.value)
        (λ z. added_are ps m.value (one.1, (two.1, (three.1, seven.1))) (add_sound cone o p s z f))

    close_is : (s acc : Integrals) → FiniteSums s → finite_sums acc ≡ true → close_due cone s acc ≡ answered (close_c acc cone.convex s)
    unfolding close_due passing
    close_is s acc f a = simp (cone_within_lem, a, is_true (finite_sums s) f, fails_none, zero_first)
      where
        cone_within_lem : cone_within cone ≡ true
        cone_within_lem = unfold face_within in (both (cone_within cone) (within3 o) face).0

    module _ (ps : List Path) (acc : Integrals) (fit : AllFit cone ps) (a : finite_sums acc ≡ true) where
      abbrev sums : Checked Integrals
      sums = fold_list_c (add_c cone o) ps nothing

      opened : and_then (open_due cone o) (added_in_turn cone o ps) ≡ answered sums
      unfolding open_due passing
      opened = simp (face, fails_none) (added_are ps nothing fit nothing_finite)

      closed : and_then (answered sums) (λ s. close_due cone s acc) ≡ settled (first sums.refusal (close_c acc cone.convex sums.value).refusal) (close_c acc cone.convex sums.value).value
      closed = then_settled sums.refusal sums.value (λ s. close_due cone s acc) (close_c acc cone.convex sums.value)
          (λ z. close_is sums.value acc (list_sound FiniteSums (add_c cone o) (add_sound cone o) ps nothing z nothing_finite) a)

      turned : in_turn cone o ps acc ≡ answered (revolution_c cone o ps acc)
      unfolding in_turn revolution_c
      turned =
          ap (λ (d : Due Integrals). and_then d (λ s. close_due cone s acc)) opened
          ∙ (closed
          ∙ ap (λ (m : Checked Integrals). settled (first m.refusal (close_c acc cone.convex m.value).refusal) (close_c acc cone.convex m.value).value) (each_is ps))

      -- the same answer
      pub same : in_turn cone o ps acc ≡ revolution_due cone o ps acc
      unfolding revolution_due
      same = turned ∙ sym (passing_none _ _ (tests_none (face_within cone o && every path_within ps) (every path_neutral ps) (every path_single ps) (finite_sums acc) (every (lies_on cone) ps) (simp (face, fit.0), (fit.1.0, (fit.1.1.0, (a, fit.1.1.1))))))

  -- ---- what is accepted passes its tests
  added_due_lem : (ps : List Path) (s t : Integrals) → added_in_turn cone o ps s ≡ due t → AllFit cone ps
  unfolding added_in_turn every add_due
  added_due_lem [] s t h = (refl, (refl, (refl, refl)))
  added_due_lem (p ∷ ps) s t h =
      then_due (add_due cone o p s) (added_in_turn cone o ps) t (AllFit cone (p ∷ ps)) h
      (λ m e r.
      let this = tests_passed (face_within cone o && path_within p) (path_neutral p) (path_single p) (finite_sums s) (lies_on cone p) (tests_accepted _ _ m e).0 in
      let rest = added_due_lem ps m t r in
      (simp ((both (face_within cone o) (path_within p) this.0).1, rest.0), (simp (this.1.0, rest.1.0), (simp (this.1.1.0, rest.1.1.0), simp (this.1.1.1.1, rest.1.1.1)))))

  -- the calls are accepted only where `revolution` is, with the same sums
  pub accepted : (ps : List Path) (acc t : Integrals) → in_turn cone o ps acc ≡ due t → revolution_due cone o ps acc ≡ due t
  unfolding in_turn open_due close_due
  accepted ps acc t h =
      then_due (and_then (open_due cone o) (added_in_turn cone o ps)) (λ s. close_due cone s acc) t (revolution_due cone o ps acc ≡ due t) h
      (λ s e c.
      then_due (open_due cone o) (added_in_turn cone o ps) s (revolution_due cone o ps acc ≡ due t) e
      (λ n f g.
      let face = holds 0 (face_within cone o) (tests_accepted _ _ n f).0 in
      let four = holds 3 (finite_sums acc && finite_sums s) (first_none _ _ (tests_accepted _ _ t c).0).1 in
      sym (same face ps acc (added_due_lem ps n s g) (both (finite_sums acc) (finite_sums s) four).0) ∙ h))

  -- and `revolution` only where they are
  pub accepts : (ps : List Path) (acc t : Integrals) → revolution_due cone o ps acc ≡ due t → in_turn cone o ps acc ≡ due t
  unfolding revolution_due
  accepts ps acc t h =
      let all = tests_passed (face_within cone o && every path_within ps) (every path_neutral ps) (every path_single ps) (finite_sums acc) (every (lies_on cone) ps) (tests_accepted _ _ t h).0 in
      let ones = both (face_within cone o) (every path_within ps) all.0 in
      same ones.0 ps acc (ones.1, (all.1.0, (all.1.1.0, all.1.1.1.1))) all.1.1.1.0 ∙ h
