-- `Rolled::uv_box`: the least and greatest u and v of a piece.
use Rattle.std.specs.Prelude.{Float}
use Rattle.checked.specs.Checked.{Checked, ◌>>=◌, given, num, ◌⊕◌, ◌⊖◌}
use Rattle.order.specs.Least.{least, greatest}
use Rattle.vectors.specs.declared.Vec2.{Vec2}
use Rattle.vectors.specs.Vectors.{plane}
use Rattle.profile_arcs.specs.declared.ProfileArc.{ProfileArc}
use Rattle.waves.specs.declared.Wave.{Wave}
use Rattle.waves.specs.TurningPoints.{range_c}
use Rattle.piece_boxes.specs.declared.brackets.FlatBox.{FlatBox}
use Rattle.piece_boxes.specs.MeetBoxes as meets
use Rattle.piece_curves.specs.declared.CurveKind.{CurveKind}
use Rattle.piece_curves.specs.declared.CurveKind.TheVariants as way
use Rattle.piece_curves.specs.declared.PieceCurve.{PieceCurve}
use Rattle.piece_lengths.specs.Measures.{distance_c}

-- of the two ends
unfoldable pub ends : Vec2 → Vec2 → FlatBox
ends f g = record { low = plane (least f.x g.x) (least f.y g.y); high = plane (greatest f.x g.x) (greatest f.y g.y) }

-- of an arc: the whole circle's, with both ends
unfoldable pub arc_c : ProfileArc → Vec2 → Vec2 → Checked FlatBox
arc_c a f g = do
  rho ← distance_c a.center f
  u0 ← num a.center.x ⊖ num rho
  u1 ← num a.center.x ⊕ num rho
  v0 ← num a.center.y ⊖ num rho
  v1 ← num a.center.y ⊕ num rho
  given (record {
    low = plane (least (ends f g).low.x u0) (least (ends f g).low.y v0);
    high = plane (greatest (ends f g).high.x u1) (greatest (ends f g).high.y v1);
  })

-- of a wave: its range for v, the ends for u
unfoldable pub wave_c : Wave → Vec2 → Vec2 → Float → Checked FlatBox
wave_c w f g n = do
  v ← range_c w.a w.b w.c f.x g.x n
  given (record { low = plane (least f.x g.x) v.low; high = plane (greatest f.x g.x) v.high })

-- of a piece, where its way is known
abbrev pub box_by : CurveKind → PieceCurve → Checked FlatBox
box_by way.Straight r = given (ends r.ends.from r.ends.to)
box_by (way.Arc a) r = arc_c a r.ends.from r.ends.to
box_by (way.Wave w) r = wave_c w r.ends.from r.ends.to r.ends.neutral
box_by (way.Meet c) r = meets.box_c c

-- `Rolled::uv_box`
unfoldable pub box_c : PieceCurve → Checked FlatBox
box_c r = box_by r.way r
