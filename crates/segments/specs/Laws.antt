-- Which notes of a segment's computations suffice.
use Rattle.std.specs.Prelude.{◌≡◌, Float}
use Rattle.std.specs.Float.{binary64}
use Rattle.std.specs.Float.Ieee.{sub, mul}
use Rattle.checked.specs.Checked.{first, nine}
use Rattle.checked.specs.Laws.{rules as checked_rules}
use Rattle.checked.specs.Numbers.{half, three, four}
use Rattle.vectors.specs.declared.Vec3.{Vec3}
use Rattle.vectors.specs.Vectors.{nines, minus_c, dot_c}
use Rattle.vectors.specs.Laws.{rules as vectors_rules}
use Rattle.libm.specs.Sincos.{sin_c}
use Rattle.arcs.specs.declared.Arc.{Arc}
use Rattle.arcs.specs.Sweep.{sweep_c}
use Rattle.arcs.specs.Points.{at_c}
use Rattle.integrals.specs.declared.SurfaceIntegrals.{SurfaceIntegrals}
use Rattle.segments.specs.declared.Slice.{Slice}
use Rattle.segments.specs.Segments.{slice_c, centroid_c, added_c}

ruleset all = (checked_rules, vectors_rules)

-- the sector's area less the triangle's, without its sign
abbrev pub size : Arc → Vec3 → Vec3 → Float
size turned u v = mul binary64 (mul binary64 (mul binary64 half turned.radius) turned.radius) (sub binary64 (sweep_c turned.center turned.axis u v).value (sin_c (sweep_c turned.center turned.axis u v).value).value)

pub slice_refusal : (turned : Arc) (u v n : Vec3) → (slice_c turned u v n).refusal ≡ first (sweep_c turned.center turned.axis u v).refusal (first (nine (mul binary64 (mul binary64 half turned.radius) turned.radius)) (first (sin_c (sweep_c turned.center turned.axis u v).value).refusal (first (nine (size turned u v)) (first (nine (dot_c turned.axis n).value) (nine (slice_c turned u v n).value.area)))))
unfolding slice_c
slice_refusal turned u v n = simp all

abbrev pub halfway : Slice → Float
halfway s = mul binary64 half s.turn

abbrev pub cubed : Slice → Float
cubed s = mul binary64 (mul binary64 (mul binary64 four (sin_c (halfway s)).value) (sin_c (halfway s)).value) (sin_c (halfway s)).value

pub centroid_refusal : (turned : Arc) (u : Vec3) (s : Slice) → (centroid_c turned u s).refusal ≡ first (nine (halfway s)) (first (at_c turned.center turned.axis turned.radius u (halfway s)).refusal (first (nines (minus_c (at_c turned.center turned.axis turned.radius u (halfway s)).value turned.center).value) (first (sin_c (halfway s)).refusal (first (nine (cubed s)) (first (nine (mul binary64 three s.rest)) (nines (centroid_c turned u s).value))))))
unfolding centroid_c
centroid_refusal turned u s = simp all

pub added_refusal : (acc : SurfaceIntegrals) (u n o : Vec3) (area : Float) (c : Vec3) → (added_c acc u n o area c).refusal ≡ first (nine (added_c acc u n o area c).value.six_v) (first (nines (added_c acc u n o area c).value.moment) (nines (added_c acc u n o area c).value.area_vector))
unfolding added_c
added_refusal acc u n o area c = simp all
