-- The points by which a piece of a development widens a box: those of the two arcs about the axis
-- at the two ends of its box along v.
use Rattle.std.specs.Prelude.{List, Float}
use Rattle.checked.specs.Checked.{Checked, ◌>>=◌, num}
use Rattle.vectors.specs.declared.Vec3.{Vec3}
use Rattle.vectors.specs.Vectors.{plane, vec, ◌⊞◌, ◌⊠◌}
use Rattle.boxes.specs.Boxes.{◌⧺◌}
use Rattle.arcs.specs.Extremes as arcs
use Rattle.developments.specs.declared.Development.{Development}
use Rattle.developments.specs.Formulas.{point_c}
use Rattle.piece_boxes.specs.declared.brackets.FlatBox.{FlatBox}
use Rattle.piece_curves.specs.declared.PieceCurve.{PieceCurve}
use Rattle.piece_boxes.specs.CurveBoxes.{box_c}

-- the arc at v, from u0 to u1, `radius` from the axis
unfoldable pub end_arc_c : Development → Float → Float → Float → Float → Checked (List Vec3)
end_arc_c dev radius u0 u1 v = do
  c ← vec dev.origin ⊞ vec dev.axis ⊠ num v
  a ← point_c dev.origin dev.axis dev.start dev.neutral (plane u0 v) radius
  b ← point_c dev.origin dev.axis dev.start dev.neutral (plane u1 v) radius
  arcs.points_c c dev.axis radius a b

-- both arcs of a box in the development
unfoldable pub end_arcs_c : Development → Float → FlatBox → Checked (List Vec3)
end_arcs_c dev radius b = end_arc_c dev radius b.low.x b.high.x b.low.y ⧺ end_arc_c dev radius b.low.x b.high.x b.high.y

-- A piece lies in its box in the development, and that box rolled up is held by the two arcs about the axis at its ends
-- along v.
unfoldable pub points_c : Development → Float → PieceCurve → Checked (List Vec3)
points_c dev radius r = do
  b ← box_c r
  end_arcs_c dev radius b
