-- A curve in space: an arc, or a piece of a development at a radius from its axis.
use Rattle.std.specs.Prelude.{List, Option, Some, None}
use Rattle.checked.specs.Checked.{Checked, ◌>>=◌, given}
use Rattle.vectors.specs.declared.Vec3.{Vec3}
use Rattle.motions.specs.declared.Rigid.{Rigid}
use Rattle.arcs.specs.declared.Arc.{Arc}
use Rattle.arcs.specs.Arcs as arcs
use Rattle.arcs.specs.Entries.{points}
use Rattle.pieces.specs.Pieces.{back}
use Rattle.curves.specs.Parts.{moved_arc_c, moved_piece_c, piece_c}
use Rattle.curves.specs.declared.Curve.{Curve}
use Rattle.curves.specs.declared.Curve.TheVariants as curve

-- run the other way
unfoldable pub reversed_c : Curve → Checked Curve
reversed_c (curve.Arc a) = do
  b ← arcs.reversed_c a
  given (curve.Arc b)
reversed_c (curve.Rolled w) = given (curve.Rolled (record { piece = back w.piece; radius = w.radius }))

-- moved by m
unfoldable pub moved_c : Curve → Rigid → Checked Curve
moved_c (curve.Arc a) m = do
  b ← moved_arc_c a m
  given (curve.Arc b)
moved_c (curve.Rolled w) m = do
  p ← moved_piece_c w.piece m
  given (curve.Rolled (record { piece = p; radius = w.radius }))

-- the curve's arc, none for a piece
unfoldable pub arc_of : Curve → Option Arc
arc_of (curve.Arc a) = Some a
arc_of (curve.Rolled w) = None

-- the ends and extreme points by which the curve widens a box: an arc's from one end to the other; a piece has its own ends
unfoldable pub points_c : Curve → Vec3 → Vec3 → Checked (List Vec3)
points_c (curve.Arc a) from to = points a from to
points_c (curve.Rolled w) from to = piece_c w.piece w.radius
