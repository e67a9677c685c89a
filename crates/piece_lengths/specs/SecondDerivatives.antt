-- `Rolled::second`: the second derivative in t of a piece. What is not read of a meet is not in it:
-- without `turn` the height alone is, with it neither the height nor its first derivative.
use Rattle.std.specs.Prelude.{Float, Some, None, Option}
use Rattle.checked.specs.Checked.{Checked, ◌>>=◌, given, num, minus, ◌⊕◌, ◌⊖◌, ◌⊗◌, ◌⊘◌}
use Rattle.checked.specs.Numbers.{zero, two}
use Rattle.vectors.specs.declared.Vec2.{Vec2}
use Rattle.vectors.specs.declared.Vec3.{Vec3}
use Rattle.vectors.specs.Vectors.{plane}
use Rattle.meets.specs.declared.quadratic.Pipe.{Pipe}
use Rattle.meets.specs.Quadratic.{intersection_c}
use Rattle.meets.specs.Generatrix as reaches
use Rattle.meets.specs.declared.Angles.{Angles}
use Rattle.profile_arcs.specs.declared.ProfileArc.{ProfileArc}
use Rattle.profile_arcs.specs.Profiles.{turn_c}
use Rattle.waves.specs.declared.Wave.{Wave}
use Rattle.waves.specs.Values as waves
use Rattle.piece_curves.specs.declared.meet_curves.MeetCurve.{MeetCurve}
use Rattle.piece_curves.specs.MeetCurves.{rate_c, angle_c}
use Rattle.piece_curves.specs.declared.CurveKind.{CurveKind}
use Rattle.piece_curves.specs.declared.CurveKind.TheVariants as way
use Rattle.piece_curves.specs.declared.PieceCurve.{PieceCurve}
use Rattle.piece_curves.specs.Points.{arc_point_c}

-- ---- where a generatrix meets the cylinder: what is read there
-- x and y of p + a·t
unfoldable pub level_c : Vec3 → Vec3 → Float → Checked Vec2
level_c p a t = do
  x ← num p.x ⊕ num a.x ⊗ num t
  y ← num p.y ⊕ num a.y ⊗ num t
  given (plane x y)

-- of the point,
unfoldable pub level_at_c : Pipe → Float → Checked Vec2
level_at_c p phi = do
  h ← intersection_c p phi
  level_c h.p0 p.a h.t

-- of its first derivative,
unfoldable pub level_slope_c : Pipe → Float → Checked Vec2
level_slope_c p phi = do
  h ← intersection_c p phi
  v ← reaches.first_derivatives_c p h
  level_c v.d1 p.a v.t1

-- of its second derivative,
unfoldable pub level_bend_c : Pipe → Float → Checked Vec2
level_bend_c p phi = do
  h ← intersection_c p phi
  v ← reaches.first_derivatives_c p h
  e ← reaches.second_derivatives_c p h v
  level_c e.d2 p.a e.t2

-- and the z of that
unfoldable pub height_bend_c : Pipe → Float → Checked Float
height_bend_c p phi = do
  h ← intersection_c p phi
  v ← reaches.first_derivatives_c p h
  e ← reaches.second_derivatives_c p h v
  num e.d2.z ⊕ num p.a.z ⊗ num e.t2

-- the second derivative of the angle about the axis, of a point with these derivatives
unfoldable pub angle_bend_c : Vec2 → Vec2 → Vec2 → Checked Float
angle_bend_c q q1 q2 = do
  r2 ← num q.x ⊗ num q.x ⊕ num q.y ⊗ num q.y
  cross ← num q.x ⊗ num q1.y ⊖ num q.y ⊗ num q1.x
  ((num q.x ⊗ num q2.y ⊖ num q.y ⊗ num q2.x) ⊗ num r2 ⊖ num cross ⊗ num two ⊗ (num q.x ⊗ num q1.x ⊕ num q.y ⊗ num q1.y)) ⊘ (num r2 ⊗ num r2)

-- ---- along a meet
-- of v
unfoldable pub bend_v_c : MeetCurve → Float → Checked Float
bend_v_c c t = do
  k ← rate_c c
  phi ← angle_c c t
  z ← height_bend_c c.pipe phi
  num z ⊗ num k ⊗ num k

-- of u along a hole
unfoldable pub bend_u_c : MeetCurve → Float → Checked Float
bend_u_c c t = do
  k ← rate_c c
  phi ← angle_c c t
  q ← level_at_c c.pipe phi
  q1 ← level_slope_c c.pipe phi
  q2 ← level_bend_c c.pipe phi
  th ← angle_bend_c q q1 q2
  num c.neutral ⊗ num th ⊗ num k ⊗ num k

-- of both, where `turn` is known
abbrev pub meet_by : Option Angles → MeetCurve → Float → Checked Vec2
meet_by None c t = do
  y ← bend_v_c c t
  given (plane zero y)
meet_by (Some a) c t = do
  x ← bend_u_c c t
  y ← bend_v_c c t
  given (plane x y)

-- along any meet
unfoldable pub meet_c : MeetCurve → Float → Checked Vec2
meet_c c t = meet_by c.turn c t

-- ---- along a wave
unfoldable pub wave_c : Wave → Vec2 → Vec2 → Float → Float → Checked Vec2
wave_c w from to n t = do
  du ← num to.x ⊖ num from.x
  u ← num from.x ⊕ num du ⊗ num t
  e ← waves.bend_c w.b w.c u n
  y ← num e ⊗ num du ⊗ num du
  given (plane zero y)

-- ---- along an arc: towards its centre
unfoldable pub arc_c : ProfileArc → Vec2 → Vec2 → Float → Checked Vec2
arc_c a from to t = do
  p ← arc_point_c a from to t
  phi ← turn_c a from to
  x ← minus (num phi) ⊗ num phi ⊗ (num p.x ⊖ num a.center.x)
  y ← minus (num phi) ⊗ num phi ⊗ (num p.y ⊖ num a.center.y)
  given (plane x y)

-- `Rolled::second`, where the way is known
abbrev pub second_by : CurveKind → PieceCurve → Float → Checked Vec2
second_by way.Straight r t = given (plane zero zero)
second_by (way.Arc a) r t = arc_c a r.ends.from r.ends.to t
second_by (way.Wave w) r t = wave_c w r.ends.from r.ends.to r.ends.neutral t
second_by (way.Meet c) r t = meet_c c t

-- `Rolled::second`: the second derivative in t
unfoldable pub second_c : PieceCurve → Float → Checked Vec2
second_c r t = second_by r.way r t
