use Rattle.checked.specs.LoopsLaws.{fold_none, fold_value}
use Rattle.walls.proofs.radii.Goals as goal

pub loop-i-init : goal.loop-i-init
loop-i-init c = simp fold_none

pub loop-i-preserved : goal.loop-i-preserved
loop-i-preserved c = simp (c.patch-a.ensures, c.lies.ensures, c.loop-i.invariant, fold_value)
