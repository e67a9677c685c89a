use Rattle.std.proofs.Common.{◌≡◌, ℕ}
use Rattle.checked.specs.Checked.{Checked}
use Rattle.vectors.specs.declared.Vec3.{Vec3}
use Rattle.rows.specs.Rows.{up_to, Gives}
use Rattle.rows.proofs.settle.Given as goal

-- the points 1 to i meet no refusal
abbrev pub invariant-loop-i : goal.invariant-loop-i
invariant-loop-i g l = (f : ℕ → Checked Vec3) → Gives (goal.F-post g l.point) f → (up_to f l.i).refusal ≡ 0
