-- Which notes suffice along a generatrix. Assumes nothing.
use Rattle.std.specs.Prelude.{◌≡◌, true, false, Float}
use Rattle.std.specs.Float.{binary64}
use Rattle.std.specs.Float.Ieee.{add, sub, div, neg, le}
use Rattle.checked.specs.Checked.{first, nine}
use Rattle.checked.specs.Laws.{rules as checked_rules}
use Rattle.checked.specs.Numbers.{zero}
use Rattle.libm.specs.Sincos.{sincos_c}
use Rattle.directions.specs.Directions.{over_length_c}
use Rattle.directions.specs.Laws.{over_length_refusal, rules as directions_rules}
use Rattle.vectors.specs.declared.Vec3.{Vec3}
use Rattle.vectors.specs.Vectors.{along_z, nines, cross_c}
use Rattle.vectors.specs.Laws.{rules as vectors_rules}
use Rattle.meets.specs.declared.quadratic.Pipe.{Pipe}
use Rattle.meets.specs.declared.quadratic.Quadratic.{Quadratic}
use Rattle.meets.specs.Quadratic.{own_c, other_c, quadratic_c, lesser_c, intersection_c}

ruleset all = (checked_rules, vectors_rules, directions_rules)

pub own_refusal : (o axis : Vec3) (radius own n : Float) → (own_c o axis radius own n).refusal ≡ nines (own_c o axis radius own n).value.a
unfolding own_c
own_refusal o axis radius own n = simp all

pub other_refusal : (o axis : Vec3) (radius own : Float) → (other_c o axis radius own).refusal ≡ first (over_length_c (cross_c along_z axis).value).refusal (nines (other_c o axis radius own).value.e2)
unfolding other_c
other_refusal o axis radius own = simp (over_length_refusal, all)

-- a finite root tells that all before it is finite, the angle's sine apart
abbrev pub quadratic : Pipe → Float → Quadratic
quadratic p phi =
    let h = (intersection_c p phi).value in
    (quadratic_c h.w h.af p.mr).value

pub reach_refusal : (p : Pipe) (phi : Float) → (intersection_c p phi).refusal ≡ first (sincos_c phi).refusal (first (nine (intersection_c p phi).value.root) (lesser_c (quadratic p phi)).refusal)
unfolding intersection_c
reach_refusal p phi = simp all

-- the lesser root, by the sign of b: the divisor is noted by itself
module _ (q : Quadratic) where
  pub near_refusal : le q.b zero ≡ true → (lesser_c q).refusal ≡ first (nine (sub binary64 q.root q.b)) (nine (div binary64 q.cc (sub binary64 q.root q.b)))
  unfolding lesser_c
  near_refusal h = simp (h, checked_rules)

  pub near_value : le q.b zero ≡ true → (lesser_c q).value ≡ div binary64 q.cc (sub binary64 q.root q.b)
  unfolding lesser_c
  near_value h = simp h

  pub far_refusal : le q.b zero ≡ false → (lesser_c q).refusal ≡ nine (div binary64 (neg (add binary64 q.b q.root)) q.aa)
  unfolding lesser_c
  far_refusal h = simp (h, checked_rules)

  pub far_value : le q.b zero ≡ false → (lesser_c q).value ≡ div binary64 (neg (add binary64 q.b q.root)) q.aa
  unfolding lesser_c
  far_value h = simp h
