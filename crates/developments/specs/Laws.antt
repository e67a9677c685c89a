-- Which notes suffice between a development and space. Assumes nothing.
use Rattle.std.specs.Prelude.{◌≡◌, Float}
use Rattle.std.specs.Float.{binary64}
use Rattle.std.specs.Float.Ieee.{div}
use Rattle.checked.specs.Checked.{first, nine}
use Rattle.checked.specs.Laws.{rules as checked_rules}
use Rattle.profile_arcs.specs.Angles.{atan2_c}
use Rattle.libm.specs.Sincos.{sincos_c}
use Rattle.directions.specs.Laws.{rules as directions_rules}
use Rattle.vectors.specs.declared.Vec2.{Vec2}
use Rattle.vectors.specs.declared.Vec3.{Vec3}
use Rattle.vectors.specs.Vectors.{nines, plus_c, minus_c, times_c, cross_c, dot_c}
use Rattle.vectors.specs.Laws.{rules as vectors_rules}
use Rattle.developments.specs.Formulas.{radial_at_c, point_c, along_c, unroll_c}

ruleset all = (checked_rules, vectors_rules, directions_rules)

pub radial_refusal : (axis start : Vec3) (neutral u : Float) → (radial_at_c axis start neutral u).refusal ≡ first (sincos_c (div binary64 u neutral)).refusal (nines (radial_at_c axis start neutral u).value)
unfolding radial_at_c
radial_refusal axis start neutral u = simp all

-- the centre is noted before the sine, which may be refused by another number
pub point_refusal : (o axis start : Vec3) (neutral : Float) (p : Vec2) (r : Float) → (point_c o axis start neutral p r).refusal ≡ first (nines (plus_c o (times_c axis p.y).value).value) (first (radial_at_c axis start neutral p.x).refusal (nines (point_c o axis start neutral p r).value))
unfolding point_c
point_refusal o axis start neutral p r = simp (radial_refusal, all)

pub along_refusal : (axis start : Vec3) (neutral : Float) (p d : Vec2) (r : Float) → (along_c axis start neutral p d r).refusal ≡ first (radial_at_c axis start neutral p.x).refusal (nines (along_c axis start neutral p d r).value)
unfolding along_c
along_refusal axis start neutral p d r = simp (radial_refusal, all)

-- q across the axis
abbrev pub across : Vec3 → Vec3 → Vec3 → Vec3
across o axis q =
    let w = (minus_c q o).value in
    (minus_c w (times_c axis (dot_c w axis).value).value).value

pub unroll_refusal : (o axis start : Vec3) (neutral : Float) (q : Vec3) (near : Float) → (unroll_c o axis start neutral q near).refusal ≡ first (nine (dot_c (across o axis q) (cross_c axis start).value).value) (first (nine (dot_c (across o axis q) start).value) (first (nine (unroll_c o axis start neutral q near).value.p.x) (nine (unroll_c o axis start neutral q near).value.r)))
unfolding unroll_c
unroll_refusal o axis start neutral q near = simp (atan2_c, all)
