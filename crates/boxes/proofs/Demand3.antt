-- Where any list of box calls leaves the box: `Met` is the claim, `all_lists` shows it of every list, and `same_box` follows.
-- It is stated of any kind of edge, given the number of the test that an edge handed in fails first (`handed`) and how its ends and extreme points are worked out
-- (`points`). `box_call` is the call, with which the contracts of the box calls in the code agree.
use Prim.Native.Nat.{ℕ, zero, suc}
use Rattle.std.specs.Prelude.{◌≡◌, Bool, T, Float}
use Rattle.std.proofs.Math.Path.{refl, ap, ap₂}
use Rattle.std.proofs.Common.{sym, ◌∙◌, subst}
use Rattle.std.proofs.Math.Logic.{⊎_elim}
use Rattle.std.proofs.Math.Bool.{true, false, cond}
use mathlib.Core.List.Memᴰ
use mathlib.Core.List.{List, [], ◌∷◌, ◌++◌, map, Memᴰ}
use Rattle.order.specs.Extremes.{Within, one_least, one_greatest}
use Rattle.vectors.specs.declared.Vec3.{Vec3}
use Rattle.checked.specs.Checked.{Checked, Due, settled}
use Rattle.checked.specs.Answers.{after}
use Rattle.checked.specs.Tests.{passing}
use Rattle.boxes.specs.Boxes.{Axis, at, widened_by, free, empty, box_call, Sound}
use Rattle.boxes.proofs.Laws.{NumbersAll, empty_free, finite_numbers, widened_append, widened_low, widened_high, widened_free, on_free}
use Rattle.boxes.specs.declared.Bounds.{Bounds}
use Rattle.boxes.specs.Demand3.{answer, is_due, call, accepted, accepted_of, run, answers, points_of, Met, SameAccepted, SameBox}

-- ================ the proof

-- ---- what a call on a box free of NaN does, by what its edge is due on the empty box
module _ (h : ℕ) (c : Checked (List Vec3)) (b : Bounds) (F : T (free b)) where
  same_answer : answer (box_call h c b) ≡ answer (box_call h c empty)
  unfolding settled passing
  same_answer = rw (on_free b h c F, on_free empty h c empty_free) (cases h c.refusal)
    where
      cases : (h r : ℕ) → answer (passing h (settled r (widened_by b c.value))) ≡ answer (passing h (settled r (widened_by empty c.value)))
      cases zero zero = refl
      cases zero (suc r) = refl
      cases (suc h) r = refl

  after_is : after b (box_call h c b) ≡ widened_by b (cond (is_due (box_call h c empty)) c.value [])
  unfolding settled passing widened_by
  after_is = rw (on_free b h c F, on_free empty h c empty_free) (cases h c.refusal)
    where
      cases : (h r : ℕ) → after b (passing h (settled r (widened_by b c.value))) ≡ widened_by b (cond (is_due (passing h (settled r (widened_by empty c.value)))) c.value [])
      cases zero zero = refl
      cases zero (suc r) = refl
      cases (suc h) r = refl

-- an accepted edge passed its tests, and its points met no refusal
accepted_passed : (h : ℕ) (c : Checked (List Vec3)) → T (is_due (box_call h c empty)) → (h ≡ 0) × (c.refusal ≡ 0)
unfolding settled passing
accepted_passed h c t = cases h c.refusal (rw (on_free empty h c empty_free) at t)
  where
    cases : (h r : ℕ) → T (is_due (passing h (settled r (widened_by empty c.value)))) → (h ≡ 0) × (r ≡ 0)
    cases zero zero t = (refl, refl)
    cases zero (suc r) t = absurd t
    cases (suc h) r t = absurd t

-- ---- lists
map_to : (k : Axis) (p : Vec3) (ps : List Vec3) → Memᴰ p ps → Memᴰ (at k p) (map (at k) ps)
map_to k p [] x' = elim x' [ ]
map_to k p (q ∷ ps) (Memᴰ.head e) = Memᴰ.head (ap (at k) e)
map_to k p (q ∷ ps) (Memᴰ.tail m) = Memᴰ.tail (map_to k p ps m)

map_within : (k : Axis) (ps qs : List Vec3) → Within ps qs → Within (map (at k) ps) (map (at k) qs)
map_within k [] qs w x m = absurd (Memᴰ.not-nil m)
map_within k (p ∷ ps) qs w x m = ⊎_elim
    (λ (e : x ≡ at k p). Memᴰ.cast e (map_to k p qs (w p (Memᴰ.head refl))))
    (λ (n : Memᴰ x (map (at k) ps)). map_within k ps qs (λ q l. w q (Memᴰ.tail l)) x n)
    (Memᴰ.cases_cons m)

cons_within : (a : Float) (xs ys : List Float) → Within xs ys → Within (a ∷ xs) (a ∷ ys)
cons_within a xs ys w x m = ⊎_elim (λ (e : x ≡ a). Memᴰ.head e) (λ (n : Memᴰ x xs). Memᴰ.tail (w x n)) (Memᴰ.cases_cons m)

-- ---- the theorem. sound: the points of an edge that passes its tests are finite where working them out meets no refusal
module _ {Edge : Type 0} (handed : Edge → ℕ) (points : Edge → Checked (List Vec3))
    (sound : (e : Edge) → handed e ≡ 0 → Sound (points e))
  where
    -- the points that an edge's call takes: none where it is refused
    abbrev taken : Edge → List Vec3
    taken e = cond (accepted handed points e) (points e).value []

    taken_numbers : (e : Edge) → NumbersAll (taken e)
    taken_numbers e = cases (accepted handed points e) refl
      where
        cases : (t : Bool) → accepted handed points e ≡ t → NumbersAll (cond t (points e).value [])
        cases true h p m =
            let fine = accepted_passed (handed e) (points e) (subst T (sym h) tt) in
            finite_numbers p (sound e fine.0 fine.1 p m)
        cases false h p m = absurd (Memᴰ.not-nil m)

    abbrev all : List Edge → List Vec3
    all es = points_of handed points (accepted_of handed points es)

    all_cons : (e : Edge) (es : List Edge) → all (e ∷ es) ≡ taken e ++ all es
    unfolding accepted_of points_of
    all_cons e es = cases (accepted handed points e)
      where
        cases : (t : Bool) → points_of handed points (cond t (e ∷ accepted_of handed points es) (accepted_of handed points es)) ≡ cond t (points e).value [] ++ all es
        cases true = refl
        cases false = refl

    after_free : (b : Bounds) (e : Edge) → T (free b) → T (free (after b (call handed points b e)))
    after_free b e F = rw (after_is (handed e) (points e) b F) (widened_free b (taken e) F (taken_numbers e))

    run_is : (b : Bounds) (es : List Edge) → T (free b) → run handed points b es ≡ widened_by b (all es)
    unfolding run accepted_of points_of widened_by
    run_is b [] F = refl
    run_is b (e ∷ es) F =
        run_is (after b (call handed points b e)) es (after_free b e F)
        ∙ (ap (λ (c : Bounds). widened_by c (all es)) (after_is (handed e) (points e) b F)
        ∙ (sym (widened_append b (taken e) (all es)) ∙ ap (widened_by b) (sym (all_cons e es))))

    answers_are : (b : Bounds) (es : List Edge) → T (free b) → answers handed points b es ≡ map (λ e. answer (call handed points empty e)) es
    unfolding answers
    answers_are b [] F = refl
    answers_are b (e ∷ es) F = ap₂ (λ (a : Due Unit) (rest : List (Due Unit)). a ∷ rest)
        (same_answer (handed e) (points e) b F)
        (answers_are (after b (call handed points b e)) es (after_free b e F))

    all_numbers : (es : List Edge) → NumbersAll (all es)
    unfolding accepted_of points_of
    all_numbers [] p m = absurd (Memᴰ.not-nil m)
    all_numbers (e ∷ es) p m = ⊎_elim
        (λ (n : Memᴰ p (taken e)). taken_numbers e p n)
        (λ (n : Memᴰ p (all es)). all_numbers es p n)
        (Memᴰ.append_cases (taken e) (subst (λ (ps : List Vec3). Memᴰ p ps) (all_cons e es) m))

    -- after any list of box calls from any box free of NaN
    pub all_lists : (b : Bounds) → T (free b) → (es : List Edge) → Met handed points b es
    all_lists b F es = record {
      low = λ k. rw (run_is b es F) (widened_low b (all es) F (all_numbers es) k);
      high = λ k. rw (run_is b es F) (widened_high b (all es) F (all_numbers es) k);
      each = answers_are b es F;
    }

    points_to : (e : Edge) (p : Vec3) (es : List Edge) → Memᴰ e es → Memᴰ p (points e).value → Memᴰ p (points_of handed points es)
    unfolding points_of
    points_to e p [] x'' m = elim x'' [ ]
    points_to e p (f ∷ es) (Memᴰ.head q) m = Memᴰ.append_left (points_of handed points es) (subst (λ (g : Edge). Memᴰ p (points g).value) q m)
    points_to e p (f ∷ es) (Memᴰ.tail n) m = Memᴰ.append_right (points f).value (points_to e p es n m)

    points_within : (es fs : List Edge) → Within es fs → Within (points_of handed points es) (points_of handed points fs)
    unfolding points_of
    points_within [] fs w p m = absurd (Memᴰ.not-nil m)
    points_within (e ∷ es) fs w p m = ⊎_elim
        (λ (n : Memᴰ p (points e).value). points_to e p fs (w e (Memᴰ.head refl)) n)
        (λ (n : Memᴰ p (points_of handed points es)). points_within es fs (λ g l. w g (Memᴰ.tail l)) p n)
        (Memᴰ.append_cases (points e).value m)

    -- two lists with one first box and the same accepted edges
    pub same_box : (b : Bounds) → T (free b) → (es fs : List Edge) → SameAccepted handed points es fs → SameBox (run handed points b es) (run handed points b fs)
    same_box b F es fs A =
        let there : (k : Axis) → Within (map (at k) (all es)) (map (at k) (all fs)) = λ k. map_within k (all es) (all fs) (points_within _ _ A.there) in
        let back : (k : Axis) → Within (map (at k) (all fs)) (map (at k) (all es)) = λ k. map_within k (all fs) (all es) (points_within _ _ A.back) in
        record {
          low = λ k. one_least _ _ _ _ (cons_within (at k b.low) _ _ (there k)) (cons_within (at k b.low) _ _ (back k)) ((all_lists b F es).low k) ((all_lists b F fs).low k);
          high = λ k. one_greatest _ _ _ _ (cons_within (at k b.high) _ _ (there k)) (cons_within (at k b.high) _ _ (back k)) ((all_lists b F es).high k) ((all_lists b F fs).high k);
        }
