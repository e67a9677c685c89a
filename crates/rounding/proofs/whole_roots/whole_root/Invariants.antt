-- `whole_root` meets its contract. The first loop brings s down to where its square is at most n,
-- and the second up to where the next one's is not. Both keep s below 2 ^ 27, so that its square
-- fits. The measures are s, and what s lacks of 2 ^ 27. Assumes nothing.
use Prim.Native.Nat.{◌-◌, ◌*◌, ◌^◌, ◌≤◌, ◌<◌}
use Rattle.rounding.proofs.whole_roots.whole_root.Given as goal

abbrev pub invariant-loop-s : goal.invariant-loop-s
invariant-loop-s l = l.s < 2 ^ 27

abbrev pub decreases-loop-s : goal.decreases-loop-s
decreases-loop-s l = l.s

abbrev pub invariant-loop-s-2 : goal.invariant-loop-s-2
invariant-loop-s-2 l = (l.s < 2 ^ 27) × (l.s * l.s ≤ l.n)

abbrev pub decreases-loop-s-2 : goal.decreases-loop-s-2
decreases-loop-s-2 l = 2 ^ 27 - l.s
