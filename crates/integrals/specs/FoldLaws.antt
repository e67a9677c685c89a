-- A loop whose steps may be refused, as the code runs it: it goes on as long as no refusal is met, and ends at the first. Assumes nothing.
use Prim.Native.Nat.{ℕ, ◌+◌, ◌<◌}
use Rattle.std.specs.Prelude.{◌≡◌}
use Rattle.std.proofs.Common.{sym}
use Rattle.checked.specs.Checked.{Checked, due, answered}
use Rattle.checked.specs.Loops.{fold_c}
use Rattle.checked.specs.LoopsLaws.{fold_start, fold_goes, fold_stops}
use Rattle.checked.specs.Told.{number}
use Rattle.checked.specs.ToldLaws.{met_is, settled_number}
use Rattle.checked.specs.declared.Refusal.{Refusal}

module _ {A : Type 0} (step : ℕ → A → Checked A) (start : A) where
  -- j steps met no refusal, and reached a
  abbrev pub Reached : ℕ → A → Type 0
  Reached j a = due a ≡ answered (fold_c j step start)

  pub reached_none : Reached 0 start
  reached_none = fold_start step start

  -- one step more
  pub reached_more : (j : ℕ) (a b : A) → Reached j a → due b ≡ answered (step j a) → Reached (j + 1) b
  reached_more j a b before now = fold_goes step start j a (due b) before now

  -- a refusal met is that of all steps, however many follow
  pub reached_met : (n j : ℕ) (a : A) (r : Refusal) → Reached j a → j < n → (step j a).refusal ≡ number r → (fold_c n step start).refusal ≡ number r
  reached_met n j a r before less met = met_is _ _ (fold_stops step start r j n a less before (sym (rw met (settled_number r (step j a).value))))
