-- Where a piece of a development is in space at t, at a distance from the axis. Of `Rolled::at` only
-- the point is read: the derivative does not count.
use Rattle.std.specs.Prelude.{Float}
use Rattle.checked.specs.Checked.{Checked, ◌>>=◌, given, num, ◌⊕◌, ◌⊖◌, ◌⊗◌}
use Rattle.vectors.specs.declared.Vec2.{Vec2}
use Rattle.vectors.specs.declared.Vec3.{Vec3}
use Rattle.vectors.specs.Vectors.{plane}
use Rattle.waves.specs.declared.Wave.{Wave}
use Rattle.waves.specs.Values.{v_c}
use Rattle.piece_curves.specs.MeetCurves.{point_c}
use Rattle.developments.specs.Formulas as rolls
use Rattle.piece_curves.specs.declared.CurveKind.{CurveKind}
use Rattle.piece_curves.specs.declared.CurveKind.TheVariants as way
use Rattle.piece_curves.specs.declared.PieceCurve.{PieceCurve}
use Rattle.piece_curves.specs.Points.{arc_point_c}
use Rattle.piece_curves.specs.declared.space_points.Rolling.{Rolling}

-- straight on
unfoldable pub straight_c : Vec2 → Vec2 → Float → Checked Vec2
straight_c from to t = do
  dx ← num to.x ⊖ num from.x
  dy ← num to.y ⊖ num from.y
  x ← num from.x ⊕ num dx ⊗ num t
  y ← num from.y ⊕ num dy ⊗ num t
  given (plane x y)

-- along a wave
unfoldable pub wave_c : Wave → Vec2 → Vec2 → Float → Float → Checked Vec2
wave_c w from to n t = do
  du ← num to.x ⊖ num from.x
  u ← num from.x ⊕ num du ⊗ num t
  v ← v_c w.a w.b w.c u n
  given (plane u v)

-- in the development, where the way is known
abbrev pub flat_by : CurveKind → PieceCurve → Float → Checked Vec2
flat_by way.Straight r t = straight_c r.ends.from r.ends.to t
flat_by (way.Arc a) r t = arc_point_c a r.ends.from r.ends.to t
flat_by (way.Wave w) r t = wave_c w r.ends.from r.ends.to r.ends.neutral t
flat_by (way.Meet c) r t = point_c c t

-- in the development
unfoldable pub flat_c : PieceCurve → Float → Checked Vec2
flat_c r t = flat_by r.way r t

-- rolled, `radius` from the axis
unfoldable pub rolled_c : Rolling → Float → Checked Vec3
rolled_c g t = do
  p ← flat_c g.run t
  rolls.point_c g.dev.origin g.dev.axis g.dev.start g.dev.neutral p g.radius
