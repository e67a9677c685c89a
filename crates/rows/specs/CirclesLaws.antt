-- Which notes of a circle's points suffice.
use Rattle.std.specs.Prelude.{ℕ, ◌≡◌, Float}
use Rattle.std.specs.Float.{binary64}
use Rattle.std.specs.Float.Ieee.{mul, div}
use Rattle.checked.specs.Checked.{first}
use Rattle.checked.specs.Laws.{rules as checked_rules}
use Rattle.checked.specs.Numbers.{float}
use Rattle.vectors.specs.Vectors.{nines}
use Rattle.vectors.specs.Laws.{rules as vectors_rules}
use Rattle.libm.specs.Sincos.{sincos_c}
use Rattle.rows.specs.declared.circles.Circle.{Circle}
use Rattle.rows.specs.Circles.{circle_c, circle_at_c}

pub rim_refusal : (rim : Circle) (t : Float) → (circle_c rim t).refusal ≡ first (sincos_c t).refusal (nines (circle_c rim t).value)
unfolding circle_c
rim_refusal rim t = simp (checked_rules, vectors_rules)

abbrev angle : Float → ℕ → ℕ → Float
angle turn n k = div binary64 (mul binary64 turn (float k)) (float n)

-- the angle is noted where its sine is due
pub rim_at_refusal : (rim : Circle) (turn : Float) (n k : ℕ) → (circle_at_c rim turn n k).refusal ≡ (circle_c rim (angle turn n k)).refusal
unfolding circle_at_c
rim_at_refusal rim turn n k = simp (rim_refusal, checked_rules)
