-- Points of a piece of a development for drawing, both ends excluded, at a distance from the axis.
use Rattle.std.specs.Prelude.{ℕ, ◌-◌, List}
use Rattle.checked.specs.Checked.{Checked, ◌>>=◌, num, ◌⊘◌, Due, answered}
use Rattle.checked.specs.Numbers.{float}
use Rattle.vectors.specs.declared.Vec3.{Vec3}
use Rattle.rows.specs.Rows.{up_to, fits}
use Rattle.piece_curves.specs.declared.space_points.Rolling.{Rolling}
use Rattle.piece_curves.specs.SpacePoints.{rolled_c}

-- the point k of a piece that is cut into n chords
unfoldable pub inner_c : Rolling → ℕ → ℕ → Checked Vec3
inner_c g n k = do
  t ← num (float k) ⊘ num (float n)
  rolled_c g t

-- one point fewer than chords, in a row of `room` numbers
unfoldable pub inners_due : Rolling → ℕ → ℕ → Due (List Vec3)
inners_due g n room = fits room (n - 1) (answered (up_to (inner_c g n) (n - 1)))
