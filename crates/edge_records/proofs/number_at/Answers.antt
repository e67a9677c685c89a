-- `edge_records::number_at` meets its contract. Assumes nothing.
use mathlib.Core.Path.{◌≡◌, ◌∙◌, ap}
use mathlib.Core.List.{List, [], ◌∷◌}
use Prim.Native.Nat.{ℕ, ◌+◌, ◌-◌}
use native.Mathlib.Omega.{arith}
use lib.ListN.{take, drop}
use Rattle.std.specs.Int.{w64, from_le_bytes}
use Rattle.std.proofs.Common.{length, length-drop, length-take-le}
use Rattle.checked.specs.Patterns.{of_pattern}
use Rattle.edge_records.specs.Records.{low_first, number_at}
use Rattle.edge_records.proofs.number_at.Goals as goal

word_is : (l : List ℕ) → length l ≡ 8 → from_le_bytes w64 l ≡ low_first l
unfolding low_first
word_is [] n = absurd (omega arith)
word_is (a ∷ []) n = absurd (omega arith)
word_is (a ∷ b ∷ []) n = absurd (omega arith)
word_is (a ∷ b ∷ c ∷ []) n = absurd (omega arith)
word_is (a ∷ b ∷ c ∷ d ∷ []) n = absurd (omega arith)
word_is (a ∷ b ∷ c ∷ d ∷ e ∷ []) n = absurd (omega arith)
word_is (a ∷ b ∷ c ∷ d ∷ e ∷ f ∷ []) n = absurd (omega arith)
word_is (a ∷ b ∷ c ∷ d ∷ e ∷ f ∷ g ∷ []) n = absurd (omega arith)
word_is (a ∷ b ∷ c ∷ d ∷ e ∷ f ∷ g ∷ h ∷ []) n = omega arith
word_is (a ∷ b ∷ c ∷ d ∷ e ∷ f ∷ g ∷ h ∷ i ∷ l) n = absurd (omega arith)

pub returns : goal.returns
unfolding number_at
returns c =
    let a = c.args in
    let eight : a.i + 8 - a.i ≡ 8 = omega arith in
    let cut : c.copy_from_slice.new.self ≡ take 8 (drop a.i a.s.now) = c.copy_from_slice.ensures.after ∙ ap (λ n. take n (drop a.i a.s.now)) eight in
    c.of_bits.ensures ∙ ap of_pattern (c.from_le_bytes.ensures ∙ word_is _ (omega (arith, ap length cut, length-take-le 8 (drop a.i a.s.now) (omega (arith, length-drop a.i a.s.now)))) ∙ ap low_first cut)
