-- Which notes suffice of a derivative: its quotient is finite only where all before it is. Assumes nothing.
use Rattle.std.specs.Prelude.{◌≡◌, refl, Float}
use Rattle.std.specs.Float.{binary64}
use Rattle.std.specs.Float.Ieee.{add, mul}
use Rattle.checked.specs.Checked.{first, nine}
use Rattle.checked.specs.Laws.{first_zero, rules as checked_rules}
use Rattle.directions.specs.Laws.{rules as directions_rules}
use Rattle.vectors.specs.declared.Vec3.{Vec3}
use Rattle.vectors.specs.Vectors.{nines}
use Rattle.vectors.specs.Laws.{rules as vectors_rules}
use Rattle.meets.specs.declared.quadratic.Pipe.{Pipe}
use Rattle.meets.specs.declared.quadratic.Intersection.{Intersection}
use Rattle.meets.specs.declared.generatrix.FirstDerivatives.{FirstDerivatives}
use Rattle.meets.specs.Quadratic.{intersection_c}
use Rattle.meets.specs.Generatrix.{first_derivatives_c, second_derivatives_c, along_generatrix_c, height_c, derivatives_c}

ruleset all = (checked_rules, vectors_rules, directions_rules)

pub ahead_nine : (p a : Vec3) (t : Float) → (along_generatrix_c p a t).refusal ≡ nines (along_generatrix_c p a t).value
unfolding along_generatrix_c
ahead_nine p a t = simp all

pub speed_refusal : (p : Pipe) (h : Intersection) → (first_derivatives_c p h).refusal ≡ nine (first_derivatives_c p h).value.t1
unfolding first_derivatives_c
speed_refusal p h = simp all

pub bend_refusal : (p : Pipe) (h : Intersection) (v : FirstDerivatives) → (second_derivatives_c p h v).refusal ≡ nine (second_derivatives_c p h v).value.t2
unfolding second_derivatives_c
bend_refusal p h v = simp all

pub height_refusal : (p : Pipe) (phi : Float) → (height_c p phi).refusal ≡ first (intersection_c p phi).refusal (nine (height_c p phi).value)
unfolding height_c
height_refusal p phi = simp all

pub height_value : (p : Pipe) (phi : Float) → (height_c p phi).value ≡ (let h = (intersection_c p phi).value in add binary64 h.p0.z (mul binary64 p.a.z h.t))
unfolding height_c
height_value p phi = refl

-- the three derivatives of the point, each noted by itself
pub jet_refusal : (p : Pipe) (phi : Float) → (derivatives_c p phi).refusal ≡ (let h = (intersection_c p phi).value in let v = (first_derivatives_c p h).value in first (intersection_c p phi).refusal (first (first_derivatives_c p h).refusal (first (second_derivatives_c p h v).refusal (first (nines (derivatives_c p phi).value.q) (first (nines (derivatives_c p phi).value.q1) (nines (derivatives_c p phi).value.q2))))))
unfolding derivatives_c
jet_refusal p phi = simp (ahead_nine, first_zero)

pub ruleset rules = (ahead_nine)
