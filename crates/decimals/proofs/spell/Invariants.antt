-- `decimals::spell` meets its contract. The loop's invariant: the digits that stand are those that `rest` does not hold. The measure is `rest`.
-- Assumes nothing.
use mathlib.Core.Path.{◌≡◌}
use mathlib.Core.List.{◌++◌}
use Prim.Native.Nat.{◌^◌, ◌≤◌, ◌<◌}
use lib.ListN.{length, drop}
use Rattle.decimals.specs.Digits.{digits}
use Rattle.decimals.specs.DigitLaws.{ahead}
use Rattle.decimals.proofs.spell.Given as goal

abbrev pub invariant-loop-rest : goal.invariant-loop-rest
invariant-loop-rest l = (l.i ≤ 19) × (l.rest < 10 ^ l.i) × (length l.out ≡ 20) × (ahead l.i l.rest ++ drop l.i l.out ≡ digits l.n)

abbrev pub decreases-loop-rest : goal.decreases-loop-rest
decreases-loop-rest l = l.rest
