-- Loops over computations that keep the refusal met first: a fixed number of steps, and steps until a test fails.
use Rattle.std.specs.Prelude.{ℕ, zero, suc, Bool, cond}
use Rattle.checked.specs.Checked.{Checked, ◌>>=◌, given}

-- n steps one after the other, from what is reached at the start: a step gets its index, from 0 on, and what was reached
unfoldable pub fold_c : {A : Type 0} → ℕ → (ℕ → A → Checked A) → A → Checked A
fold_c zero step start = given start
fold_c (suc n) step start = do
  a ← fold_c n step start
  step n a

-- steps while the test holds, `left` at most; where it then holds once more, the refusal `over`
unfoldable pub while_c : {A : Type 0} → ℕ → ℕ → (A → Checked Bool) → (A → Checked A) → A → Checked A
while_c over zero test step a = do
  more ← test a
  cond more (record { refusal = over; value = a }) (given a)
while_c over (suc left) test step a = do
  more ← test a
  cond
      more
      (do
        b ← step a
        while_c over left test step b)
      (given a)
