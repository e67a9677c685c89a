-- Which notes suffice of a gradient. Assumes nothing.
use Rattle.std.specs.Prelude.{◌≡◌, Float}
use Rattle.std.specs.Float.{binary64}
use Rattle.std.specs.Float.Ieee.{mul, div}
use Rattle.checked.specs.Checked.{first, nine}
use Rattle.checked.specs.Laws.{rules as checked_rules}
use Rattle.libm.specs.Sincos.{sincos_c, sines_or_zeros}
use Rattle.directions.specs.Laws.{rules as directions_rules}
use Rattle.vectors.specs.declared.Vec2.{Vec2}
use Rattle.vectors.specs.declared.Vec3.{Vec3}
use Rattle.vectors.specs.Laws.{rules as vectors_rules}
use Rattle.piece_normals.specs.Directions.{gradient_c}

-- the point on the cylinder, across its axis
abbrev pub spot_x : Float → Float → Vec2 → Float
spot_x own n p = mul binary64 own (sines_or_zeros (div binary64 p.x n)).cos

abbrev pub spot_y : Float → Float → Vec2 → Float
spot_y own n p = mul binary64 own (sines_or_zeros (div binary64 p.x n)).sin

pub gradient_refusal : (origin axis : Vec3) (own n : Float) (p : Vec2) → (gradient_c origin axis own n p).refusal ≡ first (sincos_c (div binary64 p.x n)).refusal (first (nine (spot_x own n p)) (first (nine (spot_y own n p)) (nine (gradient_c origin axis own n p).value.x)))
unfolding gradient_c
gradient_refusal origin axis own n p = simp (checked_rules, vectors_rules, directions_rules)
