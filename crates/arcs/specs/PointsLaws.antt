-- Which notes of a circle's points suffice, and that they are the points of a rim. Assumes nothing.
use Rattle.std.specs.Prelude.{◌≡◌, refl, Float}
use Rattle.std.proofs.Common.{sym, ◌∙◌}
use Rattle.checked.specs.Checked.{first, nine}
use Rattle.checked.specs.Laws.{rules as checked_rules}
use Rattle.vectors.specs.declared.Vec3.{Vec3}
use Rattle.vectors.specs.Vectors.{nines, minus_c}
use Rattle.vectors.specs.Laws.{rules as vectors_rules}
use Rattle.directions.specs.Directions.{length_c, across_c}
use Rattle.directions.specs.Laws.{rules as directions_rules}
use Rattle.libm.specs.Sincos.{sincos_c}
use Rattle.rows.specs.Circles.{circle_c}
use Rattle.rows.specs.CirclesLaws.{rim_refusal}
use Rattle.arcs.specs.Points.{radius_vector_c, rim_of, turned_c}

ruleset all = (checked_rules, vectors_rules, directions_rules)

pub spoke_refusal : (center axis : Vec3) (radius : Float) (from : Vec3) → (radius_vector_c center axis radius from).refusal ≡ first (nine (length_c (across_c axis (minus_c from center).value).value).value) (nines (radius_vector_c center axis radius from).value)
unfolding radius_vector_c
spoke_refusal center axis radius from = simp all

-- ---- the rim of a circle, from the spoke d
-- the sine's and cosine's refusal, then the point's
turned_notes : (center axis d : Vec3) (t : Float) → (turned_c center axis d t).refusal ≡ first (sincos_c t).refusal (nines (turned_c center axis d t).value)
unfolding turned_c
turned_notes center axis d t = simp all

pub turned_refusal : (center axis d : Vec3) (t : Float) → (turned_c center axis d t).refusal ≡ (circle_c (rim_of center axis d) t).refusal
unfolding turned_c circle_c
turned_refusal center axis d t = turned_notes center axis d t ∙ sym (rim_refusal (rim_of center axis d) t)

pub turned_value : (center axis d : Vec3) (t : Float) → (turned_c center axis d t).value ≡ (circle_c (rim_of center axis d) t).value
unfolding turned_c circle_c
turned_value center axis d t = refl
