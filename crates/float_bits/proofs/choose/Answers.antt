use Prim.Native.Nat.{ℕ, ◌<◌}
use mathlib.Core.Path.{◌≡◌}
use native.Mathlib.Omega.{arith}
use borrow.Author.Tests.{eq-eqb, ne_eqb}
use Rattle.float_bits.specs.FloatBits.{choose}
use Rattle.float_bits.proofs.choose.Goals as goal

one : (m : ℕ) → m < 2 → (m ≡ 0 → ⊥) → m ≡ 1
one m l n = omega arith

pub returns-then-m-eq0 : goal.returns-then-m-eq0
unfolding choose
returns-then-m-eq0 c = simp (eq-eqb _ _ c.if-m-eq0.true)

pub returns-else-m-eq0 : goal.returns-else-m-eq0
unfolding choose
returns-else-m-eq0 c = simp (ne_eqb _ _ c.if-m-eq0.false, eq-eqb _ 1 (one _ c.if-m-lt2.true c.if-m-eq0.false))

pub returns-then-m-eq2 : goal.returns-then-m-eq2
unfolding choose
returns-then-m-eq2 c = simp (ne_eqb c.args.m 0 (λ e. omega arith), ne_eqb c.args.m 1 (λ e. omega arith), eq-eqb _ _ c.if-m-eq2.true)

pub returns-else-m-eq2 : goal.returns-else-m-eq2
unfolding choose
returns-else-m-eq2 c = simp (ne_eqb c.args.m 0 (λ e. omega arith), ne_eqb c.args.m 1 (λ e. omega arith), ne_eqb _ _ c.if-m-eq2.false)
