-- The refusal of each step of a motion in the notes that suffice. Assumes nothing.
use Rattle.std.specs.Prelude.{◌≡◌, Float}
use Rattle.std.specs.Float.{binary64}
use Rattle.std.specs.Float.Ieee.{sub}
use Rattle.checked.specs.Checked.{first, nine}
use Rattle.checked.specs.Laws.{first_zero, zero_first, rules as checked_rules}
use Rattle.checked.specs.Numbers.{one}
use Rattle.libm.specs.Sincos.{sincos_c}
use Rattle.directions.specs.Directions.{over_length_c}
use Rattle.vectors.specs.declared.Vec3.{Vec3}
use Rattle.vectors.specs.Vectors.{nines, space}
use Rattle.vectors.specs.Laws.{nines_are, rules as vectors_rules}
use Rattle.motions.specs.declared.Rigid.{Rigid}
use Rattle.motions.specs.Motions.{diagonal_c, more_c, less_c, rows_c, rows_nine, rotation_c, apply_vector_c, apply_c}

pub diagonal_nine : (t a c : Float) → (diagonal_c t a c).refusal ≡ nine (diagonal_c t a c).value
unfolding diagonal_c
diagonal_nine t a c = simp checked_rules

pub more_nine : (t a b s d : Float) → (more_c t a b s d).refusal ≡ nine (more_c t a b s d).value
unfolding more_c
more_nine t a b s d = simp checked_rules

pub less_nine : (t a b s d : Float) → (less_c t a b s d).refusal ≡ nine (less_c t a b s d).value
unfolding less_c
less_nine t a b s d = simp checked_rules

-- three notes are that of the vector
pub space_nine : (x y z : Float) → first (nine x) (first (nine y) (nine z)) ≡ nines (space x y z)
space_nine x y z = simp nines_are

pub apply_vector_nine : (m : Rigid) (v : Vec3) → (apply_vector_c m v).refusal ≡ nines (apply_vector_c m v).value
unfolding apply_vector_c
apply_vector_nine m v = simp (vectors_rules, checked_rules) (space_nine _ _ _)

pub rows_nine_lem : (k : Vec3) (s c t : Float) → (rows_c k s c t).refusal ≡ rows_nine (rows_c k s c t).value
unfolding rows_c rows_nine
rows_nine_lem k s c t = simp (diagonal_nine, more_nine, less_nine, checked_rules, ← space_nine)

pub apply_nine : (m : Rigid) (p : Vec3) → (apply_c m p).refusal ≡ nines (apply_c m p).value
unfolding apply_c
apply_nine m p = simp (apply_vector_nine, vectors_rules, checked_rules)

-- the axis, the angle, what is left of 1, the rows: each is noted by itself
pub rotation_refusal : (axis : Vec3) (angle : Float) → (rotation_c axis angle).refusal ≡ first (over_length_c axis).refusal (first (sincos_c angle).refusal (first (nine (sub binary64 one (sincos_c angle).value.cos)) (rows_nine (rotation_c axis angle).value.rot)))
unfolding rotation_c
rotation_refusal axis angle = simp (rows_nine_lem, first_zero, zero_first)

pub ruleset rules = (rows_nine_lem, apply_vector_nine, apply_nine)
