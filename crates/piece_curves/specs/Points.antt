-- `Rolled::at`: the point at t of a piece, from 0 at its first end to 1 at its last, and its
-- derivative in t.
use Rattle.std.specs.Prelude.{Float}
use Rattle.checked.specs.Checked.{Checked, ◌>>=◌, given, num, minus, ◌⊕◌, ◌⊖◌, ◌⊗◌}
use Rattle.libm.specs.Sincos.{sincos_c}
use Rattle.vectors.specs.declared.Vec2.{Vec2}
use Rattle.vectors.specs.Vectors.{plane}
use Rattle.profile_arcs.specs.declared.ProfileArc.{ProfileArc}
use Rattle.profile_arcs.specs.Profiles.{turn_c}
use Rattle.waves.specs.declared.Wave.{Wave}
use Rattle.waves.specs.Values as waves
use Rattle.piece_curves.specs.declared.meet_curves.Place.{Place}
use Rattle.piece_curves.specs.MeetCurves as courses
use Rattle.piece_curves.specs.declared.CurveKind.{CurveKind}
use Rattle.piece_curves.specs.declared.CurveKind.TheVariants as way
use Rattle.piece_curves.specs.declared.PieceCurve.{PieceCurve}
use Rattle.piece_curves.specs.declared.points.Swung.{Swung}

-- straight on
unfoldable pub straight_c : Vec2 → Vec2 → Float → Checked Place
straight_c from to t = do
  dx ← num to.x ⊖ num from.x
  dy ← num to.y ⊖ num from.y
  x ← num from.x ⊕ num dx ⊗ num t
  y ← num from.y ⊕ num dy ⊗ num t
  given (record { p = plane x y; d = plane dx dy })

-- along an arc: the whole turn, and from the centre to the point at t
unfoldable pub swung_c : ProfileArc → Vec2 → Vec2 → Float → Checked Swung
swung_c a from to t = do
  dx ← num from.x ⊖ num a.center.x
  dy ← num from.y ⊖ num a.center.y
  phi ← turn_c a from to
  part ← num phi ⊗ num t
  s ← sincos_c part
  x ← num dx ⊗ num s.cos ⊖ num dy ⊗ num s.sin
  y ← num dx ⊗ num s.sin ⊕ num dy ⊗ num s.cos
  given (record { phi = phi; x = x; y = y })

-- the point alone
unfoldable pub arc_point_c : ProfileArc → Vec2 → Vec2 → Float → Checked Vec2
arc_point_c a from to t = do
  w ← swung_c a from to t
  x ← num a.center.x ⊕ num w.x
  y ← num a.center.y ⊕ num w.y
  given (plane x y)

-- the point on an arc, and its derivative: a quarter turn from the way out
unfoldable pub arc_c : ProfileArc → Vec2 → Vec2 → Float → Checked Place
arc_c a from to t = do
  w ← swung_c a from to t
  x ← num a.center.x ⊕ num w.x
  y ← num a.center.y ⊕ num w.y
  dx ← minus (num w.phi) ⊗ num w.y
  dy ← num w.phi ⊗ num w.x
  given (record { p = plane x y; d = plane dx dy })

-- along a wave
unfoldable pub wave_c : Wave → Vec2 → Vec2 → Float → Float → Checked Place
wave_c w from to n t = do
  du ← num to.x ⊖ num from.x
  u ← num from.x ⊕ num du ⊗ num t
  h ← waves.with_slope_c w.a w.b w.c u n
  dv ← num h.slope ⊗ num du
  given (record { p = plane u h.v; d = plane du dv })

-- the point at t and its derivative, where the way is known
abbrev pub at_by : CurveKind → PieceCurve → Float → Checked Place
at_by way.Straight r t = straight_c r.ends.from r.ends.to t
at_by (way.Arc a) r t = arc_c a r.ends.from r.ends.to t
at_by (way.Wave w) r t = wave_c w r.ends.from r.ends.to r.ends.neutral t
at_by (way.Meet c) r t = courses.at_c c t

-- the point at t and its derivative
unfoldable pub at_c : PieceCurve → Float → Checked Place
at_c r t = at_by r.way r t
