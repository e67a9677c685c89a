-- `Rolled::across`: the direction of a hole's edge at a point of the development, the way it runs.
use Rattle.std.specs.Prelude.{cond, Float}
use Rattle.std.specs.Float.Ieee.{le, neg}
use Rattle.checked.specs.Checked.{Checked, ◌>>=◌, given, num, ◌⊖◌, ◌⊗◌, ◌⊘◌}
use Rattle.checked.specs.Numbers.{zero, half}
use Rattle.libm.specs.Sincos.{sincos_c}
use Rattle.directions.specs.Directions.{across_c}
use Rattle.vectors.specs.declared.Vec2.{Vec2}
use Rattle.vectors.specs.declared.Vec3.{Vec3}
use Rattle.vectors.specs.Vectors.{plane, space, vec, ◌⊟◌, ◌⊠◌, ◌⊡◌}
use Rattle.piece_curves.specs.declared.meet_curves.MeetCurve.{MeetCurve}
use Rattle.piece_curves.specs.MeetCurves as courses

-- A hole's edge runs where the distance from the pipe's axis is the pipe's radius, along a level line of that distance
-- on the cylinder of radius `own`. A level line runs across the gradient. Here is the gradient at p of half the square
-- of the distance.
unfoldable pub gradient_c : Vec3 → Vec3 → Float → Float → Vec2 → Checked Vec2
gradient_c origin axis own n p = do
  phi ← num p.x ⊘ num n
  t ← sincos_c phi
  x ← num own ⊗ num t.cos
  y ← num own ⊗ num t.sin
  q ← vec (space x y p.y) ⊟ vec origin
  w ← across_c axis q
  k ← num own ⊘ num n
  pu ← vec (space (neg t.sin) t.cos zero) ⊠ num k
  gx ← vec w ⊡ vec pu
  given (plane gx w.z)

-- across the gradient, turned round where the edge runs the other way
unfoldable pub facing : Vec2 → Float → Vec2
facing g side = cond (le zero side) (plane (neg g.y) g.x) (plane (neg (neg g.y)) (neg g.x))

-- which way, by the piece at its middle: its place and derivative there
unfoldable pub side_c : Vec3 → Vec3 → Float → MeetCurve → Checked Float
side_c origin axis own c = do
  mid ← courses.at_c c half
  g ← gradient_c origin axis own c.neutral mid.p
  num g.x ⊗ num mid.d.y ⊖ num g.y ⊗ num mid.d.x
