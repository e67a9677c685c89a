-- `Curve::inner_points`: one point fewer is due than there are chords, and these are at most 4,096. So a row of `CURVE_ROW`
-- numbers, three for each of 4,095 points, is never refused by 6, and a longer one changes no answer. Assumes nothing.
-- That is proved in proofs/CurveRows.antt; here is why the row suffices.
use Rattle.std.specs.Prelude.{ℕ, ◌-◌, ◌*◌, ◌≤◌, ◌≡◌, List}
use Rattle.std.proofs.Common.{arith, le-leb}
use Rattle.checked.specs.Checked.{Due}
use Rattle.checked.specs.Tests.{fails, passing}
use Rattle.vectors.specs.declared.Vec3.{Vec3}
use Rattle.chord_counts.specs.Counts.{MOST}
use Rattle.rows.specs.Rows.{fits}
use Rattle.curves.specs.Drawn.{CURVE_ROW}

-- such a row holds the points of n chords: n - 1 of them
pub held : (room n : ℕ) (rest : Due (List Vec3)) → CURVE_ROW ≤ room → n ≤ MOST → fits room (n - 1) rest ≡ rest
unfolding fails passing
held room n rest h m = simp (le-leb (3 * (n - 1)) room (omega arith))
