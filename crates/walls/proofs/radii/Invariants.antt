use Rattle.std.specs.Prelude.{◌≡◌}
use Rattle.checked.specs.Loops.{fold_c}
use Rattle.walls.specs.Walls.{radius_c}
use Rattle.walls.proofs.radii.Given as goal

-- i radii are summed
abbrev pub invariant-loop-i : goal.invariant-loop-i
invariant-loop-i l = l.a ≡ (fold_c l.i (radius_c l.v l.k.p l.k.d l.k.radial l.k.h l.k.wt) l.fn.s).value
