-- Which notes suffice along a piece. Assumes nothing.
use Rattle.std.specs.Prelude.{◌≡◌, Float}
use Rattle.std.specs.Float.{binary64}
use Rattle.std.specs.Float.Ieee.{sub, mul}
use Rattle.checked.specs.Checked.{first, nine}
use Rattle.checked.specs.Laws.{rules as checked_rules}
use Rattle.libm.specs.Sincos.{sincos_c}
use Rattle.vectors.specs.declared.Vec2.{Vec2}
use Rattle.profile_arcs.specs.declared.ProfileArc.{ProfileArc}
use Rattle.profile_arcs.specs.Profiles.{turn_c}
use Rattle.waves.specs.declared.Wave.{Wave}
use Rattle.waves.specs.Values as waves
use Rattle.piece_curves.specs.Points.{straight_c, swung_c, arc_point_c, arc_c, wave_c}
use Rattle.piece_curves.specs.SpacePoints as places

-- the ends of the chains along x and along y
pub straight_refusal : (from to : Vec2) (t : Float) → (straight_c from to t).refusal ≡ first (nine (straight_c from to t).value.d.x) (first (nine (straight_c from to t).value.d.y) (first (nine (straight_c from to t).value.p.x) (nine (straight_c from to t).value.p.y)))
unfolding straight_c
straight_refusal from to t = simp checked_rules

-- the spoke and the turn are noted before the sine, which may be refused by another number
pub swung_refusal : (a : ProfileArc) (from to : Vec2) (t : Float) → (swung_c a from to t).refusal ≡ first (nine (sub binary64 from.x a.center.x)) (first (nine (sub binary64 from.y a.center.y)) (first (turn_c a from to).refusal (first (sincos_c (mul binary64 (turn_c a from to).value t)).refusal (first (nine (swung_c a from to t).value.x) (nine (swung_c a from to t).value.y)))))
unfolding swung_c
swung_refusal a from to t = simp checked_rules

-- the ends of the chains of an arc's point and of its derivative
pub arc_point_refusal : (a : ProfileArc) (from to : Vec2) (t : Float) → (arc_point_c a from to t).refusal ≡ first (swung_c a from to t).refusal (first (nine (arc_point_c a from to t).value.x) (nine (arc_point_c a from to t).value.y))
unfolding arc_point_c
arc_point_refusal a from to t = simp checked_rules

pub arc_refusal : (a : ProfileArc) (from to : Vec2) (t : Float) → (arc_c a from to t).refusal ≡ first (swung_c a from to t).refusal (first (nine (arc_c a from to t).value.p.x) (first (nine (arc_c a from to t).value.p.y) (first (nine (arc_c a from to t).value.d.x) (nine (arc_c a from to t).value.d.y))))
unfolding arc_c
arc_refusal a from to t = simp checked_rules

-- u is noted before the sine along a wave
pub wave_refusal : (w : Wave) (from to : Vec2) (n t : Float) → (wave_c w from to n t).refusal ≡ first (nine (wave_c w from to n t).value.d.x) (first (nine (wave_c w from to n t).value.p.x) (first (waves.with_slope_c w.a w.b w.c (wave_c w from to n t).value.p.x n).refusal (nine (wave_c w from to n t).value.d.y)))
unfolding wave_c
wave_refusal w from to n t = simp checked_rules

pub wave_place_refusal : (w : Wave) (from to : Vec2) (n t : Float) → (places.wave_c w from to n t).refusal ≡ first (nine (places.wave_c w from to n t).value.x) (waves.v_c w.a w.b w.c (places.wave_c w from to n t).value.x n).refusal
unfolding places.wave_c
wave_place_refusal w from to n t = simp checked_rules
