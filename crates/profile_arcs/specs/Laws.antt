-- Which notes of a turn suffice.
use Rattle.std.specs.Prelude.{◌≡◌, Bool, true, false, cond, Float}
use Rattle.std.specs.Float.{binary64}
use Rattle.std.specs.Float.Ieee.{add, sub, mul}
use Rattle.checked.specs.Checked.{first, nine}
use Rattle.checked.specs.Laws.{rules as checked_rules}
use Rattle.vectors.specs.declared.Vec2.{Vec2}
use Rattle.profile_arcs.specs.Angles.{angle_c, ahead_c, back_c}
use Rattle.profile_arcs.specs.AnglesLaws.{ahead_nine, back_nine, ahead_noted, back_noted}
use Rattle.profile_arcs.specs.Profiles.{apart_c, turn_c}
use Rattle.profile_arcs.specs.declared.ProfileArc.{ProfileArc}

turned_nine : (ccw : Bool) (t : Float) → first (nine t) (cond ccw (ahead_c t) (back_c t)).refusal ≡ nine (cond ccw (ahead_c t) (back_c t)).value
turned_nine true t = ahead_nine t
turned_nine false t = back_nine t

turned_noted : (ccw : Bool) (t : Float) → first (nine t) (nine (cond ccw (ahead_c t) (back_c t)).value) ≡ nine (cond ccw (ahead_c t) (back_c t)).value
turned_noted true t = ahead_noted t
turned_noted false t = back_noted t

-- the two numbers that the arctangent takes tell of the four differences
abbrev crossed : Vec2 → Vec2 → Float
crossed u v = sub binary64 (mul binary64 u.x v.y) (mul binary64 u.y v.x)

abbrev dotted : Vec2 → Vec2 → Float
dotted u v = add binary64 (mul binary64 u.x v.x) (mul binary64 u.y v.y)

pub turn_refusal : (arc : ProfileArc) (a b : Vec2) → (turn_c arc a b).refusal ≡ first (angle_c (crossed (apart_c arc.center a).value (apart_c arc.center b).value) (dotted (apart_c arc.center a).value (apart_c arc.center b).value)).refusal (nine (turn_c arc a b).value)
unfolding turn_c apart_c
turn_refusal arc a b = simp (turned_nine, turned_noted, checked_rules)
