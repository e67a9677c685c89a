-- What the integral along a path reads of `Rolled::at`: the point (u, v) at t, and how fast u runs.
-- How fast v runs is dropped unread, so it does not count.
use Rattle.std.specs.Prelude.{Float}
use Rattle.checked.specs.Checked.{Checked, ◌>>=◌, given, num, minus, ◌⊕◌, ◌⊖◌, ◌⊗◌}
use Rattle.vectors.specs.declared.Vec2.{Vec2}
use Rattle.profile_arcs.specs.declared.ProfileArc.{ProfileArc}
use Rattle.waves.specs.declared.Wave.{Wave}
use Rattle.waves.specs.Values.{v_c}
use Rattle.piece_curves.specs.declared.meet_curves.MeetCurve.{MeetCurve}
use Rattle.piece_curves.specs.MeetCurves.{point_c, slope_u_c}
use Rattle.piece_curves.specs.declared.CurveKind.{CurveKind}
use Rattle.piece_curves.specs.declared.CurveKind.TheVariants as way
use Rattle.piece_curves.specs.declared.PieceCurve.{PieceCurve}
use Rattle.piece_curves.specs.Points.{swung_c}
use Rattle.face_paths.specs.declared.piece_rates.PieceRate.{PieceRate}

-- straight on
unfoldable pub straight_c : Vec2 → Vec2 → Float → Checked PieceRate
straight_c from to t = do
  dx ← num to.x ⊖ num from.x
  dy ← num to.y ⊖ num from.y
  x ← num from.x ⊕ num dx ⊗ num t
  y ← num from.y ⊕ num dy ⊗ num t
  given (record { u = x; v = y; du = dx })

-- along an arc
unfoldable pub arc_c : ProfileArc → Vec2 → Vec2 → Float → Checked PieceRate
arc_c a from to t = do
  w ← swung_c a from to t
  x ← num a.center.x ⊕ num w.x
  y ← num a.center.y ⊕ num w.y
  dx ← minus (num w.phi) ⊗ num w.y
  given (record { u = x; v = y; du = dx })

-- along a wave
unfoldable pub wave_c : Wave → Vec2 → Vec2 → Float → Float → Checked PieceRate
wave_c w from to n t = do
  du ← num to.x ⊖ num from.x
  u ← num from.x ⊕ num du ⊗ num t
  v ← v_c w.a w.b w.c u n
  given (record { u = u; v = v; du = du })

-- along a meet: what is due before the sine comes first, and all after it is refused by one number
unfoldable pub meet_c : MeetCurve → Float → Checked PieceRate
meet_c c t = do
  du ← slope_u_c c t
  p ← point_c c t
  given (record { u = p.x; v = p.y; du = du })

abbrev pub rate_by : CurveKind → PieceCurve → Float → Checked PieceRate
rate_by way.Straight r t = straight_c r.ends.from r.ends.to t
rate_by (way.Arc a) r t = arc_c a r.ends.from r.ends.to t
rate_by (way.Wave w) r t = wave_c w r.ends.from r.ends.to r.ends.neutral t
rate_by (way.Meet c) r t = meet_c c t

unfoldable pub rate_c : PieceCurve → Float → Checked PieceRate
rate_c r t = rate_by r.way r t
