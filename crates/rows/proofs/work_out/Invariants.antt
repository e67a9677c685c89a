use Rattle.std.proofs.Common.{◌≡◌, ℕ, ◌*◌, length, drop}
use mathlib.Core.List.{◌++◌}
use Rattle.checked.specs.Checked.{Checked}
use Rattle.vectors.specs.declared.Vec3.{Vec3}
use Rattle.rows.specs.Rows.{up_to, flat, Gives}
use Rattle.rows.proofs.work_out.Given as goal

-- the points 1 to i met no refusal and are stored, and the rest of the buffer is as it was
abbrev pub invariant-loop-i : goal.invariant-loop-i
invariant-loop-i g l =
    (length l.buf ≡ length l.initial.buf)
    × ((f : ℕ → Checked Vec3) → Gives (goal.F-post g l.point) f
    → ((up_to f l.i).refusal ≡ 0) × (l.buf ≡ flat (up_to f l.i).value ++ drop (3 * l.i) l.initial.buf))
