-- `edge_lines::Line::put_whole` meets its contract. Assumes nothing.
use mathlib.Core.Path.{◌≡◌, ◌∙◌, refl, ap}
use mathlib.Core.Bool.{true, false, true≢false}
use mathlib.Core.List.{List, ◌∷◌, ◌++◌}
use Prim.Native.Nat.{ℕ}
use native.Mathlib.Omega.{arith}
use lib.IntN.{ℤ, pos, negsuc, nat_abs}
use lib.Signed.{lt_z}
use borrow.Author.Tests.{ltb-true}
use Rattle.std.proofs.Math.Facts.{to_z-of_z}
use Rattle.decimals.specs.Digits.{digits, numeral}
use Rattle.edge_lines.specs.Lines.{bytes}
use Rattle.edge_lines.proofs.Line.put_whole.Goals as goal

with_minus : (z : ℤ) (tail : List ℕ) → lt_z z (pos 0) ≡ true → 32 ∷ 45 ∷ (digits (nat_abs z) ++ tail) ≡ bytes " " ++ numeral z ++ tail
unfolding bytes numeral
with_minus (pos n) tail h = absurd (let l = ltb-true n 0 h in omega arith)
with_minus (negsuc n) tail h = refl

without : (z : ℤ) (tail : List ℕ) → lt_z z (pos 0) ≡ false → 32 ∷ (digits (nat_abs z) ++ tail) ≡ bytes " " ++ numeral z ++ tail
unfolding bytes numeral
without (pos n) tail h = refl
without (negsuc n) tail h = absurd (true≢false h)

pub returns-then-is_negative-clause-line : goal.returns-then-is_negative-clause-line
returns-then-is_negative-clause-line c =
    let a = c.args in
    let n = to_z-of_z c.ranges.n in
    c.put.ensures ∙ ap (λ l. 32 ∷ 45 ∷ l) (rw (c.unsigned_abs.ensures.value, n) at c.put_digits.ensures.line) ∙ with_minus a.n a.self.now (rw n at c.if-is_negative.true)

pub returns-else-is_negative-clause-line : goal.returns-else-is_negative-clause-line
returns-else-is_negative-clause-line c =
    let a = c.args in
    let n = to_z-of_z c.ranges.n in
    c.put-else-is_negative.ensures ∙ ap (λ l. 32 ∷ l) (rw (c.unsigned_abs.ensures.value, n) at c.put_digits.ensures.line) ∙ without a.n a.self.now (rw n at c.if-is_negative.false)
