-- An arc of a profile, and how far it turns.
use Rattle.std.specs.Prelude.{cond, ◌&&◌, Float}
use Rattle.checked.specs.Refusals.{OUT_OF_RANGE}
use Rattle.checked.specs.Checked.{Checked, ◌>>=◌, given, num, ◌⊕◌, ◌⊖◌, ◌⊗◌, Due, answered}
use Rattle.checked.specs.Tests.{fails, passing}
use Rattle.vectors.specs.declared.Vec2.{Vec2}
use Rattle.vectors.specs.Vectors.{within2}
use Rattle.profile_arcs.specs.Angles.{atan2_c, ahead_c, back_c}
use Rattle.profile_arcs.specs.declared.ProfileArc.{ProfileArc}

-- b - a
unfoldable pub apart_c : Vec2 → Vec2 → Checked Vec2
apart_c a b = do
  x ← num b.x ⊖ num a.x
  y ← num b.y ⊖ num a.y
  given (record { x = x; y = y })

-- the angle from u to v, in [−π, π]
abbrev pub between_c : Vec2 → Vec2 → Checked Float
between_c u v = atan2_c (num u.x ⊗ num v.y ⊖ num u.y ⊗ num v.x) (num u.x ⊗ num v.x ⊕ num u.y ⊗ num v.y)

-- the angle that the arc turns from a to b about its centre: in (0, 2π] counterclockwise, in
-- [−2π, 0) clockwise (`turn_answer` of crates/arc_theorems)
unfoldable pub turn_c : ProfileArc → Vec2 → Vec2 → Checked Float
turn_c arc a b = do
  u ← apart_c arc.center a
  v ← apart_c arc.center b
  t ← between_c u v
  cond arc.ccw (ahead_c t) (back_c t)

-- `ProfileArc::turn`, an entry
unfoldable pub turn_due : ProfileArc → Vec2 → Vec2 → Due Float
turn_due arc a b = passing (fails OUT_OF_RANGE (within2 arc.center && (within2 a && within2 b))) (answered (turn_c arc a b))
