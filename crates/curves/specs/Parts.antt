-- What a curve is made of: an arc and a piece moved, a piece's points in space.
use Rattle.std.specs.Prelude.{List, Float}
use Rattle.checked.specs.Checked.{Checked, ◌>>=◌, given}
use Rattle.vectors.specs.declared.Vec3.{Vec3}
use Rattle.motions.specs.declared.Rigid.{Rigid}
use Rattle.motions.specs.Axes as axes
use Rattle.arcs.specs.declared.Arc.{Arc}
use Rattle.developments.specs.Developments as developments
use Rattle.pieces.specs.declared.Rolled.{Rolled}
use Rattle.pieces.specs.Pieces.{run_c}
use Rattle.piece_boxes.specs.SpaceBoxes as bounds

-- the centre turned and shifted, the axis turned
unfoldable pub moved_arc_c : Arc → Rigid → Checked Arc
moved_arc_c a m = do
  x ← axes.moved_c m a.center a.axis
  given (record { center = x.origin; axis = x.along; radius = a.radius })

-- a piece moves with its development; where it lies in it stays
unfoldable pub moved_piece_c : Rolled → Rigid → Checked Rolled
moved_piece_c p m = do
  d ← developments.moved_c p.dev m
  given (record { dev = d; from = p.from; to = p.to; arc = p.arc; trace = p.trace })

-- the points by which a piece at `radius` from its axis widens a box
unfoldable pub piece_c : Rolled → Float → Checked (List Vec3)
piece_c p radius = do
  r ← run_c p
  bounds.points_c p.dev radius r
