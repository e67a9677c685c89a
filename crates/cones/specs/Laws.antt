-- Which notes of a frame's computations suffice.
use Rattle.std.specs.Prelude.{◌≡◌, Float}
use Rattle.checked.specs.Checked.{first, nine}
use Rattle.checked.specs.Laws.{rules as checked_rules}
use Rattle.vectors.specs.declared.Vec3.{Vec3}
use Rattle.vectors.specs.Vectors.{along_x, along_y, along_z, nines, minus_c, dot_c}
use Rattle.vectors.specs.Laws.{rules as vectors_rules}
use Rattle.directions.specs.Directions.{length_c, across_c}
use Rattle.directions.specs.Laws.{unit_refusal, rules as directions_rules}
use Rattle.libm.specs.Sincos.{sincos_c}
use Rattle.cones.specs.declared.Cone.{Cone}
use Rattle.cones.specs.declared.Frame.{Frame}
use Rattle.cones.specs.Frames.{least_axis, frame_c, angle_c, point_c}

ruleset all = (checked_rules, vectors_rules, directions_rules)

-- the three cosines, the length that the unit vector is divided by, then e2, which tells of the unit vector
module _ (c : Cone) where
  abbrev pub cosine : Vec3 → Float
  cosine e = (dot_c e c.axis).value

  abbrev pub aside : Vec3
  aside = (across_c c.axis (least_axis (cosine along_x) (cosine along_y) (cosine along_z))).value

pub frame_refusal : (c : Cone) → (frame_c c).refusal ≡ first (nine (cosine c along_x)) (first (nine (cosine c along_y)) (first (nine (cosine c along_z)) (first (nine (length_c (aside c)).value) (nines (frame_c c).value.e2))))
unfolding frame_c
frame_refusal c = simp (unit_refusal, all)

pub angle_refusal : (f : Frame) (p : Vec3) → (angle_c f p).refusal ≡ first (nine (dot_c (minus_c p f.origin).value f.e2).value) (first (nine (dot_c (minus_c p f.origin).value f.e1).value) (nine (angle_c f p).value))
unfolding angle_c
angle_refusal f p = simp all

pub point_refusal : (f : Frame) (theta z r : Float) → (point_c f theta z r).refusal ≡ first (sincos_c theta).refusal (nines (point_c f theta z r).value)
unfolding point_c
point_refusal f theta z r = simp all
