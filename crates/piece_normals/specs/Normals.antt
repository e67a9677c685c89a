-- `Rolled::normal`: the unit normal of the wall over a piece, left of the piece's direction.
use Rattle.std.specs.Prelude.{cond, Float, Some, None, Option}
use Rattle.checked.specs.Checked.{Checked, ◌>>=◌, given, num, ◌⊖◌, ◌⊗◌, ◌⊘◌}
use Rattle.directions.specs.Directions.{unit_c}
use Rattle.vectors.specs.declared.Vec2.{Vec2}
use Rattle.vectors.specs.declared.Vec3.{Vec3}
use Rattle.vectors.specs.Vectors.{plane, vec, ◌⨯◌}
use Rattle.profile_arcs.specs.declared.ProfileArc.{ProfileArc}
use Rattle.waves.specs.declared.Wave.{Wave}
use Rattle.waves.specs.Values as waves
use Rattle.meets.specs.declared.Angles.{Angles}
use Rattle.meets.specs.declared.Meet.{Meet}
use Rattle.traces.specs.declared.Trace.{Trace}
use Rattle.traces.specs.declared.Trace.TheVariants as trace
use Rattle.piece_curves.specs.MeetCurves.{meet_curve_c, slope_u_c, slope_v_c}
use Rattle.developments.specs.Formulas.{radial_at_c, along_c}
use Rattle.piece_normals.specs.Directions.{gradient_c, facing, side_c}

-- ---- the direction of a piece at p
unfoldable pub straight_c : Vec2 → Vec2 → Checked Vec2
straight_c from to = do
  x ← num to.x ⊖ num from.x
  y ← num to.y ⊖ num from.y
  given (plane x y)

-- along an arc, by its sense: a quarter turn from the way out, counterclockwise or clockwise
unfoldable pub arc_c : ProfileArc → Vec2 → Checked Vec2
arc_c a p =
    cond
    a.ccw
    (do
      x ← num a.center.y ⊖ num p.y
      y ← num p.x ⊖ num a.center.x
      given (plane x y))
    (do
      x ← num p.y ⊖ num a.center.y
      y ← num a.center.x ⊖ num p.x
      given (plane x y))

-- along a wave, at the u of p
unfoldable pub wave_c : Wave → Vec2 → Vec2 → Float → Vec2 → Checked Vec2
wave_c w from to n p = do
  du ← num to.x ⊖ num from.x
  s ← waves.slope_c w.b w.c p.x n
  y ← num s ⊗ num du
  given (plane du y)

-- without `turn`: the derivative where u is that of p
unfoldable pub own_c : Meet → Vec2 → Vec2 → Float → Vec2 → Checked Vec2
own_c m from to n p = do
  du ← num to.x ⊖ num from.x
  t ← (num p.x ⊖ num from.x) ⊘ num du
  c ← meet_curve_c from to n m
  x ← slope_u_c c t
  y ← slope_v_c c t
  given (plane x y)

-- with it: the gradient at p is worked out first, then the pipe and what is read at the piece's
-- middle
unfoldable pub hole_c : Meet → Vec2 → Vec2 → Float → Vec2 → Checked Vec2
hole_c m from to n p = do
  g ← gradient_c m.origin m.axis m.own n p
  c ← meet_curve_c from to n m
  s ← side_c m.origin m.axis m.own c
  given (facing g s)

-- along a meet, where `turn` is known
abbrev pub meet_by : Option Angles → Meet → Vec2 → Vec2 → Float → Vec2 → Checked Vec2
meet_by None m from to n p = own_c m from to n p
meet_by (Some a) m from to n p = hole_c m from to n p

-- along a meet
unfoldable pub meet_c : Meet → Vec2 → Vec2 → Float → Vec2 → Checked Vec2
meet_c m from to n p = meet_by m.turn m from to n p

-- an arc goes first, as in the Rust; a piece with both is refused where it is handed in
unfoldable pub direction_c : Option ProfileArc → Option Trace → Vec2 → Vec2 → Float → Vec2 → Checked Vec2
direction_c (Some a) trace' from to n p = arc_c a p
direction_c None (Some (trace.Wave w)) from to n p = wave_c w from to n p
direction_c None (Some (trace.Meet m)) from to n p = meet_c m from to n p
direction_c None None from to n p = straight_c from to

-- ---- at r from the axis, where the piece has the direction d
unfoldable pub normal_c : Vec3 → Vec3 → Float → Vec2 → Vec2 → Float → Checked Vec3
normal_c axis start n p d r = do
  a ← radial_at_c axis start n p.x
  b ← along_c axis start n p d r
  c ← vec a ⨯ vec b
  unit_c c
