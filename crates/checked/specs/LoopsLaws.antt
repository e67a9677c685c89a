-- One step more of a loop, and what is the same however a loop is cut. Assumes nothing.
use Rattle.checked.specs.Answers.{and_then}
use Prim.Native.Nat.{ℕ, zero, suc, ◌+◌, ◌-◌}
use Rattle.std.specs.Prelude.{◌≡◌, Bool, true, false, ◌<◌}
use Rattle.std.proofs.Math.Path.{refl}
use Rattle.std.proofs.Common.{sym, ◌∙◌, add-one, add-zero}
use native.Mathlib.Omega.{arith}
use Rattle.checked.specs.Checked.{Checked, first, ◌>>=◌, given, Due, due, refused, settled, answered}
use Rattle.checked.specs.Laws.{zero_first}
use Rattle.checked.specs.Loops.{fold_c, while_c}
use Rattle.checked.specs.Told.{number}
use Rattle.checked.specs.ToldLaws.{rules as told_rules, none_met, value_is, met_is, settled_number, first_number}
use Rattle.checked.specs.declared.Refusal.{Refusal}

module _ {A : Type 0} (step : ℕ → A → Checked A) (start : A) where
  -- ---- a fixed number of steps
  -- none
  pub fold_none : fold_c 0 step start ≡ given start
  unfolding fold_c
  fold_none = refl

  -- one more, at its end
  pub fold_refusal : (n : ℕ) → (fold_c (n + 1) step start).refusal ≡ first (fold_c n step start).refusal (step n (fold_c n step start).value).refusal
  unfolding fold_c
  fold_refusal n = rw (add-one n)

  pub fold_value : (n : ℕ) → (fold_c (n + 1) step start).value ≡ (step n (fold_c n step start).value).value
  unfolding fold_c
  fold_value n = rw (add-one n)

-- steps that agree, reached by the same values, make the same loop
pub fold_values : {A : Type 0} (step other : ℕ → A → Checked A) (start : A) → ((k : ℕ) (a : A) → (step k a).value ≡ (other k a).value) → (n : ℕ) → (fold_c n step start).value ≡ (fold_c n other start).value
unfolding fold_c
fold_values step other start h zero = refl
fold_values step other start h (suc n) = rw (fold_values step other start h n) (h n _)

-- a computation that each step makes first, and whose result is the same in all of them, need be made once: `Meet::point` works out the pipe in each call
both : (r f g : ℕ) → first (first r f) (first r g) ≡ first r (first f g)
unfolding first
both zero f g = refl
both (suc r) f g = refl

module _ {A B : Type 0} (m : Checked B) (step : B → ℕ → A → Checked A) (start : A) where
  -- each step with the computation before it
  abbrev pub afresh : ℕ → A → Checked A
  afresh k a = do
    b ← m
    step b k a

  pub once_value : (n : ℕ) → (fold_c n afresh start).value ≡ (fold_c n (step m.value) start).value
  unfolding fold_c
  once_value zero = refl
  once_value (suc n) = rw (once_value n)

  -- refusals too, where there is a step at all
  pub once_refusal : (n : ℕ) → (fold_c (suc n) afresh start).refusal ≡ first m.refusal (fold_c (suc n) (step m.value) start).refusal
  unfolding fold_c
  once_refusal zero = simp zero_first
  once_refusal (suc n) = rw (once_refusal n, once_value n) (both m.refusal _ _)

-- ---- a fixed number of steps, each a call whose refusal is passed on: one step more, and the step that is refused
-- what follows an answer, by the computation that it is of
then_settled : {A B : Type 0} (r : ℕ) (v : A) (w : A → B) (t : A → ℕ) → and_then (settled r v) (λ a. settled (t a) (w a)) ≡ settled (first r (t v)) (w v)
unfolding settled first
then_settled zero v w t = refl
then_settled (suc r) v w t = refl

module _ {A : Type 0} (step : ℕ → A → Checked A) (start : A) where
  -- no step yet
  pub fold_start : due start ≡ answered (fold_c 0 step start)
  unfolding fold_c settled
  fold_start = refl

  -- one step more
  pub fold_goes : (n : ℕ) (a : A) (d : Due A) → due a ≡ answered (fold_c n step start) → d ≡ answered (step n a) → d ≡ answered (fold_c (n + 1) step start)
  fold_goes n a d so_far next = simp (fold_refusal step start n, fold_value step start n, none_met _ _ so_far, value_is _ _ so_far, zero_first) next

  -- a refusal stays
  fold_stays : (r : Refusal) (k j : ℕ) → refused (number r) ≡ answered (fold_c k step start) → refused (number r) ≡ answered (fold_c (k + j) step start)
  fold_stays r k zero met = simp add-zero met
  fold_stays r k (suc j) met =
      let m = met_is _ _ (fold_stays r k j met) in
      let e : k + suc j ≡ k + j + 1 = omega arith in
      rw e (simp (fold_refusal step start (k + j), m, first_number, settled_number))

  -- the step k is refused
  pub fold_stops : (r : Refusal) (k n : ℕ) (a : A) → k < n → due a ≡ answered (fold_c k step start) → refused (number r) ≡ answered (step k a) → refused (number r) ≡ answered (fold_c n step start)
  fold_stops r k n a less so_far next =
      let e : k + 1 + (n - (k + 1)) ≡ n = omega (arith, less) in
      rw (sym e) (fold_stays r (k + 1) (n - (k + 1)) (fold_goes k a _ so_far next))

  -- one step more, after an answer that is passed on as it is
  pub fold_then : (n : ℕ) (s d : Due A) → s ≡ answered (fold_c n step start) → d ≡ and_then s (λ a. answered (step n a)) → d ≡ answered (fold_c (n + 1) step start)
  fold_then n s d so_far next = simp (fold_refusal step start n, fold_value step start n) (next ∙ (rw so_far (then_settled _ _ _ _)))

-- ---- a `while` that meets no refusal, step by step: the loop from a
module _ {A : Type 0} (over : ℕ) (test : A → Checked Bool) (step : A → Checked A) (a : A) (none : (test a).refusal ≡ 0) where
  -- one step more
  pub goes_on : (left : ℕ) → (test a).value ≡ true → (step a).refusal ≡ 0 → while_c over (suc left) test step a ≡ while_c over left test step (step a).value
  unfolding while_c first
  goes_on left h met = simp (none, h, met)

  -- the end
  pub ends : (left : ℕ) → (test a).value ≡ false → while_c over left test step a ≡ given a
  unfolding while_c first
  ends zero h = simp (none, h)
  ends (suc left) h = simp (none, h)

  -- one step too many
  pub is_over : (test a).value ≡ true → while_c over 0 test step a ≡ record { refusal = over; value = a }
  unfolding while_c first
  is_over h = simp (none, h)

  -- a refusal of the step
  pub step_refuses : (left : ℕ) (r : Refusal) → (test a).value ≡ true → (step a).refusal ≡ number r → (while_c over (suc left) test step a).refusal ≡ number r
  unfolding while_c
  step_refuses left r h met = simp (none, h, met, told_rules)

-- a refusal of the test
pub test_refuses : {A : Type 0} (over left : ℕ) (test : A → Checked Bool) (step : A → Checked A) (a : A) (r : Refusal) → (test a).refusal ≡ number r → (while_c over left test step a).refusal ≡ number r
unfolding while_c
test_refuses over zero test step a r met = simp (met, told_rules)
test_refuses over (suc left) test step a r met = simp (met, told_rules)
