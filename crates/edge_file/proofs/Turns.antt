-- A turn of the loop that takes the records of some bytes. Assumes nothing.
use Prim.Native.Nat.{ℕ, ◌+◌, ◌-◌, ◌≤◌, ◌<◌}
use mathlib.Core.Path.{◌≡◌, refl, sym, ap, ◌∙◌, subst}
use mathlib.Core.List.{List, ◌++◌}
use native.Mathlib.Omega.{arith}
use lib.ListN.{length, take, drop, length-drop}
use lib.Seq.{take_all, drop-drop}
use Rattle.edge_file.specs.Steps.{State, line_on, step, due_of, Fed}
use Rattle.edge_file.specs.Cutting.{OpenAfter}
use Rattle.edge_file.proofs.Cutting.{stepped, left_over, due_within, due_little, step_open, open_more, none_due}

-- After the first `used` bytes the reading r stands, the next step takes `size` bytes, and the line
-- is that of the reading r₀ before them.
pub record Taking (r₀ : State) (bytes : List ℕ) (r : State) (used size : ℕ) : Type 0 where
  pub fits : used + size ≤ length bytes
  pub due : size ≡ due_of r (drop used bytes)
  pub on : (rest : List ℕ) → line_on r (drop used bytes ++ rest) ≡ line_on r₀ (bytes ++ rest)
  pub edges : 0 < used → OpenAfter r.stand used

fits_by : (bytes : List ℕ) (r : State) (used size : ℕ) → used ≤ length bytes → size ≡ due_of r (drop used bytes) → used + size ≤ length bytes
fits_by bytes r used size u e = omega (arith, due_within r (drop used bytes), length-drop used bytes)

pub taking_none : (r : State) (bytes : List ℕ) (size : ℕ) → size ≡ due_of r bytes → Taking r bytes r 0 size
taking_none r bytes size e = record { fits = fits_by bytes r 0 size (omega arith) e; due = e; on = λ rest. refl; edges = λ h. absurd (omega arith) }

pub taking_more : (r₀ r q : State) (bytes : List ℕ) (used size more : ℕ) → Taking r₀ bytes r used size → 0 < size
    → q ≡ step r (take (used + size - used) (drop used bytes)) → more ≡ due_of q (take (length bytes - (used + size)) (drop (used + size) bytes))
    → Taking r₀ bytes q (used + size) more
taking_more r₀ r q bytes used size more t h qs ms =
    let due' : more ≡ due_of q (drop (used + size) bytes) =
    ms ∙ ap (due_of q) (take_all (length bytes - (used + size)) (drop (used + size) bytes) (omega (arith, length-drop (used + size) bytes))) in
    record {
      fits = fits_by bytes q (used + size) more t.fits due';
      due = due';
      on = λ rest. line rest ∙ t.on rest;
      edges = λ p. open_more q.stand size (used + size) (omega arith) opened;
    }
  where
    back : (a b : ℕ) → a + b - a ≡ b
    back a b = omega arith

    stepped_to : step r (take (due_of r (drop used bytes)) (drop used bytes)) ≡ q
    stepped_to = ap (λ (k : ℕ). step r (take k (drop used bytes))) (sym (back used size ∙ t.due)) ∙ sym qs

    opened : OpenAfter q.stand size
    opened =
        subst (λ (p : State). OpenAfter p.stand size) stepped_to
        (subst (λ (n : ℕ). OpenAfter (step r (take (due_of r (drop used bytes)) (drop used bytes))).stand n) (sym t.due) (step_open r (drop used bytes) (subst (λ (n : ℕ). 0 < n) t.due h)))

    behind : drop (due_of r (drop used bytes)) (drop used bytes) ≡ drop (used + size) bytes
    behind = drop-drop (due_of r (drop used bytes)) used bytes ∙ ap (λ (k : ℕ). drop (used + k) bytes) (sym t.due)

    line : (rest : List ℕ) → line_on q (drop (used + size) bytes ++ rest) ≡ line_on r (drop used bytes ++ rest)
    line rest =
        ap (λ (p : State). line_on p (drop (used + size) bytes ++ rest)) (sym stepped_to)
        ∙ ap (λ (l : List ℕ). line_on (step r (take (due_of r (drop used bytes)) (drop used bytes))) (l ++ rest)) (sym behind)
        ∙ sym (stepped r (drop used bytes) rest (subst (λ (k : ℕ). 0 < k) t.due h))

pub taken : (r₀ r : State) (bytes : List ℕ) (used size : ℕ) → Taking r₀ bytes r used size → size ≡ 0 → Fed r₀ bytes r used
taken r₀ r bytes used size t e = record {
  on = t.on;
  over = left_over r (drop used bytes) (sym t.due ∙ e);
  within = omega (arith, t.fits);
  little = omega (arith, t.fits, due_little r (drop used bytes) (sym t.due ∙ e), length-drop used bytes);
  whole = λ l p. none_due r used bytes (sym t.due ∙ e) (omega (arith, t.fits)) (t.edges p) l;
}
