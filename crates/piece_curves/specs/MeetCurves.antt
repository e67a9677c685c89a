-- `Rolled::meet_at`: a piece that follows a meet, cut by what its callers read.
use Rattle.std.specs.Prelude.{Float, Some, None, Option}
use Rattle.std.specs.Float.{binary64}
use Rattle.std.specs.Float.Ieee.{add, sub, mul}
use Rattle.checked.specs.Checked.{Checked, ◌>>=◌, given, finite, num, ◌⊕◌, ◌⊖◌, ◌⊗◌, ◌⊘◌}
use Rattle.checked.specs.Numbers.{one, tau}
use Rattle.profile_arcs.specs.Angles.{atan2_c}
use Rattle.rounding.specs.Whole.{round_away}
use Rattle.vectors.specs.declared.Vec2.{Vec2}
use Rattle.vectors.specs.declared.Vec3.{Vec3}
use Rattle.vectors.specs.Vectors.{plane, nines}
use Rattle.meets.specs.declared.quadratic.Intersection.{Intersection}
use Rattle.meets.specs.Meets.{pipe_c}
use Rattle.meets.specs.Quadratic.{intersection_c}
use Rattle.meets.specs.Generatrix as reaches
use Rattle.meets.specs.declared.Angles.{Angles}
use Rattle.meets.specs.declared.Meet.{Meet}
use Rattle.piece_curves.specs.declared.meet_curves.MeetCurve.{MeetCurve}
use Rattle.piece_curves.specs.declared.meet_curves.Place.{Place}

-- the course along a meet from one end to the other, its pipe worked out
unfoldable pub meet_curve_c : Vec2 → Vec2 → Float → Meet → Checked MeetCurve
meet_curve_c from to n m = do
  p ← pipe_c m n
  given (record { from = from.x; to = to.x; neutral = n; turn = m.turn; pipe = p })

-- how fast the angle runs
abbrev pub rate_by : Option Angles → MeetCurve → Checked Float
rate_by None c = (num c.to ⊖ num c.from) ⊘ num c.neutral
rate_by (Some a) c = num a.to ⊖ num a.from

-- how fast the angle of a course runs
unfoldable pub rate_c : MeetCurve → Checked Float
rate_c c = rate_by c.turn c

-- the angle at t
abbrev pub angle_by : Option Angles → MeetCurve → Float → Checked Float
angle_by None c t = (num c.from ⊕ (num c.to ⊖ num c.from) ⊗ num t) ⊘ num c.neutral
angle_by (Some a) c t = num a.from ⊗ (num one ⊖ num t) ⊕ num a.to ⊗ num t

-- the angle of a course at t
unfoldable pub angle_c : MeetCurve → Float → Checked Float
angle_c c t = angle_by c.turn c t

-- the generatrix at t, up to the cylinder met
unfoldable pub intersection_at_c : MeetCurve → Float → Checked Intersection
intersection_at_c c t = do
  phi ← angle_c c t
  intersection_c c.pipe phi

-- where it ends, in space
unfoldable pub spot_c : MeetCurve → Float → Checked Vec3
spot_c c t = do
  phi ← angle_c c t
  reaches.point_c c.pipe phi

-- the same, refused up to the cylinder met: its own numbers are not tried
abbrev pub ended_c : MeetCurve → Float → Checked Vec3
ended_c c t = record { refusal = (intersection_at_c c t).refusal; value = (spot_c c t).value }

-- ---- the first derivative in t
-- of v
unfoldable pub slope_v_c : MeetCurve → Float → Checked Float
slope_v_c c t = do
  k ← rate_c c
  phi ← angle_c c t
  h ← intersection_c c.pipe phi
  v ← reaches.first_derivatives_c c.pipe h
  (num v.d1.z ⊕ num c.pipe.a.z ⊗ num v.t1) ⊗ num k

-- of u along a hole: the angle about the axis of the point's x and y
unfoldable pub around_c : MeetCurve → Float → Checked Float
around_c c t = do
  k ← rate_c c
  phi ← angle_c c t
  h ← intersection_c c.pipe phi
  v ← reaches.first_derivatives_c c.pipe h
  qx ← num h.p0.x ⊕ num c.pipe.a.x ⊗ num h.t
  qy ← num h.p0.y ⊕ num c.pipe.a.y ⊗ num h.t
  q1x ← num v.d1.x ⊕ num c.pipe.a.x ⊗ num v.t1
  q1y ← num v.d1.y ⊕ num c.pipe.a.y ⊗ num v.t1
  r2 ← num qx ⊗ num qx ⊕ num qy ⊗ num qy
  th ← (num qx ⊗ num q1y ⊖ num qy ⊗ num q1x) ⊘ num r2
  num c.neutral ⊗ num th ⊗ num k

-- of u
abbrev pub slope_u_by : Option Angles → MeetCurve → Float → Checked Float
slope_u_by None c t = num c.to ⊖ num c.from
slope_u_by (Some a) c t = around_c c t

-- of u along any course
unfoldable pub slope_u_c : MeetCurve → Float → Checked Float
slope_u_c c t = slope_u_by c.turn c t

-- ---- the point at t
unfoldable pub own_point_c : MeetCurve → Float → Checked Vec2
own_point_c c t = do
  u ← num c.from ⊕ (num c.to ⊖ num c.from) ⊗ num t
  phi ← num u ⊘ num c.neutral
  z ← reaches.height_c c.pipe phi
  given (plane u z)

-- u of a point in space, within half a turn of the piece's first
unfoldable pub near_c : MeetCurve → Vec3 → Checked Float
near_c c q = do
  turn' ← num c.neutral ⊗ num tau
  u ← num c.neutral ⊗ atan2_c (num q.y) (num q.x)
  turns ← (num c.from ⊖ num u) ⊘ num turn'
  k ← finite (round_away binary64 turns)
  num u ⊕ num turn' ⊗ num k

-- along a hole: by where the generatrix ends
unfoldable pub hole_point_c : MeetCurve → Float → Checked Vec2
hole_point_c c t = do
  q ← spot_c c t
  u ← near_c c q
  given (plane u q.z)

-- where `turn` is known
abbrev pub point_by : Option Angles → MeetCurve → Float → Checked Vec2
point_by None c t = own_point_c c t
point_by (Some a) c t = hole_point_c c t

-- of any course
unfoldable pub point_c : MeetCurve → Float → Checked Vec2
point_c c t = point_by c.turn c t

-- the same by where the generatrix at t ends: its refusals but for the end's own numbers were met before
abbrev pub placed_by : Option Angles → MeetCurve → Float → Vec3 → Checked Vec2
placed_by None c t q = do
  z ← finite q.z
  given (plane (add binary64 c.from (mul binary64 (sub binary64 c.to c.from) t)) z)
placed_by (Some a) c t q = do
  _ ← record { refusal = nines q; value = q }
  u ← near_c c q
  given (plane u q.z)

-- the same of any course
unfoldable pub placed_c : MeetCurve → Float → Vec3 → Checked Vec2
placed_c c t q = placed_by c.turn c t q

-- ---- the point and its derivative. The rate is tried before the sine, as the Rust's order has it; all after the sine is refused by one number.
unfoldable pub at_c : MeetCurve → Float → Checked Place
at_c c t = do
  du ← slope_u_c c t
  dv ← slope_v_c c t
  p ← point_c c t
  given (record { p = p; d = plane du dv })
