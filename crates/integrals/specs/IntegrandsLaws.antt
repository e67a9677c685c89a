-- The refusal of a node is that of its angle, then that of the new sums: these are finite only
-- where all that they are made of is.
use Rattle.std.specs.Prelude.{ℕ, zero, suc, ◌≡◌, Bool, true, false, ◌&&◌, Float}
use Rattle.std.proofs.Math.Path.{refl}
use Rattle.std.proofs.Common.{◌∙◌, ap}
use Rattle.std.proofs.Math.Dec.{T}
use Rattle.std.specs.Float.{binary64}
use Rattle.std.specs.Float.Ieee.{add, mul}
use Rattle.std.specs.Float.Ieee.Fits.{and_i}
use Rattle.checked.specs.Checked.{first, nine, is_finite}
use Rattle.checked.specs.Laws.{first_assoc, zero_first, first_zero, ok, nine_ok, ok_and, absorb, holds, add_left, add_right, sub_right, mul_left, mul_right, rules as checked_rules}
use Rattle.checked.specs.Numbers.{half, four, zero as nought}
use Rattle.rounding.specs.Laws.{rounded}
use Rattle.vectors.specs.declared.Vec3.{Vec3}
use Rattle.vectors.specs.Vectors.{is_finite3, nines}
use Rattle.vectors.specs.Laws.{nines_ok, tells_x, tells_y, tells_z, rules as vectors_rules}
use Rattle.rounding.specs.Computations.{sqrt_c}
use Rattle.libm.specs.Sincos.{sincos_c}
use Rattle.cones.specs.declared.Cone.{Cone}
use Rattle.cones.specs.Frames.{frame_c}
use Rattle.integrals.specs.declared.SurfaceIntegrals.{SurfaceIntegrals}
use Rattle.integrals.specs.Sums.{finite_surface, surface_nine}
use Rattle.integrals.specs.Laws.{sums_ok, area_first, the_volume, the_moment, the_area, the_vector, sums_of}
use Rattle.integrals.specs.declared.integrands.Revolved.{Revolved}
use Rattle.integrals.specs.declared.integrands.RadialNormal.{RadialNormal}
use Rattle.integrals.specs.declared.integrands.PathPoint.{PathPoint}
use Rattle.integrals.specs.Integrands.{revolved_c, radial_normal_c, patch_c, integrand_c, term_c, term3_c, terms_c, weight_c, node_c}

ruleset all = (checked_rules, vectors_rules)

pub revolved_refusal : (c : Cone) (o : Vec3) → (revolved_c c o).refusal ≡ first (frame_c c).refusal (first (nines (revolved_c c o).value.p0) (nine (revolved_c c o).value.stretch))
unfolding revolved_c
revolved_refusal c o = simp (sqrt_c, rounded, all)

bearing_refusal : (v : Revolved) (theta : Float) → (radial_normal_c v theta).refusal ≡ first (sincos_c theta).refusal (nines (radial_normal_c v theta).value.normal)
unfolding radial_normal_c
bearing_refusal v theta = simp all

-- ---- a patch
patch_refusal : (v : Revolved) (b : RadialNormal) (s : Float) → (patch_c v b s).refusal ≡ first (nines (patch_c v b s).value.moment) (first (nine (patch_c v b s).value.area) (first (nine (patch_c v b s).value.six_v) (first (nine (patch_c v b s).value.area_vector.x) (first (nine (patch_c v b s).value.area_vector.y) (nine (patch_c v b s).value.area_vector.z)))))
unfolding patch_c
patch_refusal v b s = simp all

term_nine : (w s a b c : Float) → (term_c w s a b c).refusal ≡ nine (term_c w s a b c).value
unfolding term_c
term_nine w s a b c = simp all

term3_nine : (w : Float) (s a b c : Vec3) → (term3_c w s a b c).refusal ≡ nines (term3_c w s a b c).value
unfolding term3_c is_finite3
term3_nine w s a b c = simp (nines_ok, term_nine, checked_rules, nine_ok, ok_and)

terms_nine : (w : Float) (s a b c : SurfaceIntegrals) → (terms_c w s a b c).refusal ≡ surface_nine (terms_c w s a b c).value
unfolding terms_c
terms_nine w s a b c = simp (term_nine, term3_nine, first_zero) (area_first (terms_c w s a b c).value)

-- the eight in another order
eight : (a m v n : Bool) → ok (m && (a && (v && n))) ≡ ok (v && (m && (a && n)))
eight true true true n = refl
eight true true false n = refl
eight true false true n = refl
eight true false false n = refl
eight false true true n = refl
eight false true false n = refl
eight false false true n = refl
eight false false false n = refl

patch_nine : (v : Revolved) (b : RadialNormal) (s : Float) → (patch_c v b s).refusal ≡ ok (finite_surface (patch_c v b s).value)
unfolding finite_surface
patch_nine v b s =
    let e = (patch_c v b s).value in
    patch_refusal v b s
    ∙ simp (nines_ok, nine_ok, ok_and) (eight (is_finite e.area) (is_finite3 e.moment) (is_finite e.six_v) (is_finite e.area_vector.x && (is_finite e.area_vector.y && is_finite e.area_vector.z)) ∙ ap ok (whole e))
  where
    whole : (e : SurfaceIntegrals) → (is_finite e.six_v && (is_finite3 e.moment && (is_finite e.area && (is_finite e.area_vector.x && (is_finite e.area_vector.y && is_finite e.area_vector.z))))) ≡ (is_finite e.six_v && (is_finite3 e.moment && (is_finite e.area && is_finite3 e.area_vector)))
    whole e = unfold is_finite3 in refl

-- ---- what finite sums tell
the_x : (v : Vec3) → T (is_finite3 v) → T (is_finite v.x)
the_x v h = holds (is_finite v.x) (is_finite3 v) (tells_x v) h

the_y : (v : Vec3) → T (is_finite3 v) → T (is_finite v.y)
the_y v h = holds (is_finite v.y) (is_finite3 v) (tells_y v) h

the_z : (v : Vec3) → T (is_finite3 v) → T (is_finite v.z)
the_z v h = holds (is_finite v.z) (is_finite3 v) (tells_z v) h

three : (v : Vec3) → T (is_finite v.x) → T (is_finite v.y) → T (is_finite v.z) → T (is_finite3 v)
unfolding is_finite3
three v x y z = and_i (is_finite v.x) (is_finite v.y && is_finite v.z) x (and_i (is_finite v.y) (is_finite v.z) y z)

-- w, and what is weighed
term_parts : (w s a b c : Float) → T (is_finite (term_c w s a b c).value) → T (is_finite w) × (T (is_finite a) × (T (is_finite b) × T (is_finite c)))
unfolding term_c
term_parts w s a b c h =
    let f = mul binary64 four b in
    let mean = add binary64 (add binary64 a f) c in
    let weighed = sub_right binary64 s (mul binary64 w mean) h in
    let All-three = mul_right binary64 w mean weighed in
    let two = add_left binary64 (add binary64 a f) c All-three in
    (mul_left binary64 w mean weighed, (add_left binary64 a f two, (mul_right binary64 four b (add_right binary64 a f two), add_right binary64 (add binary64 a f) c All-three)))

term3_parts : (w : Float) (s a b c : Vec3) → T (is_finite3 (term3_c w s a b c).value) → T (is_finite w) × (T (is_finite3 a) × (T (is_finite3 b) × T (is_finite3 c)))
unfolding term3_c
term3_parts w s a b c h =
    let v = (term3_c w s a b c).value in
    let x = term_parts w s.x a.x b.x c.x (the_x v h) in
    let y = term_parts w s.y a.y b.y c.y (the_y v h) in
    let z = term_parts w s.z a.z b.z c.z (the_z v h) in
    (x.0, (three a x.1.0 y.1.0 z.1.0, (three b x.1.1.0 y.1.1.0 z.1.1.0, three c x.1.1.1 y.1.1.1 z.1.1.1)))

terms_parts : (w : Float) (s a b c : SurfaceIntegrals) → T (finite_surface (terms_c w s a b c).value) → T (is_finite w) × (T (finite_surface a) × (T (finite_surface b) × T (finite_surface c)))
unfolding terms_c
terms_parts w s a b c h =
    let e = (terms_c w s a b c).value in
    let v = term_parts w s.six_v a.six_v b.six_v c.six_v (the_volume e h) in
    let m = term3_parts w s.moment a.moment b.moment c.moment (the_moment e h) in
    let t = term_parts w s.area a.area b.area c.area (the_area e h) in
    let n = term3_parts w s.area_vector a.area_vector b.area_vector c.area_vector (the_vector e h) in
    (v.0, (sums_of a v.1.0 m.1.0 t.1.0 n.1.0, (sums_of b v.1.1.0 m.1.1.0 t.1.1.0 n.1.1.0, sums_of c v.1.1.1 m.1.1.1 t.1.1.1 n.1.1.1)))

-- a patch's normal, and its place along the axis
patch_parts : (v : Revolved) (b : RadialNormal) (s : Float) → T (finite_surface (patch_c v b s).value) → T (is_finite3 b.normal) × T (is_finite s)
unfolding patch_c
patch_parts v b s h =
    let e = (patch_c v b s).value in
    let r = add binary64 v.radius (mul binary64 v.slope s) in
    let n = the_vector e h in (
      three b.normal (mul_right binary64 r b.normal.x (the_x e.area_vector n)) (mul_right binary64 r b.normal.y (the_y e.area_vector n)) (mul_right binary64 r b.normal.z (the_z e.area_vector n)),
      mul_right binary64 v.slope s (add_right binary64 v.radius (mul binary64 v.slope s) (mul_left binary64 r v.stretch (the_area e h))),
    )

-- ---- a node
weight_nine : (p : PathPoint) (h wgt : Float) → (weight_c p h wgt).refusal ≡ nine (weight_c p h wgt).value
unfolding weight_c
weight_nine p h wgt = simp all

-- the angle is tried three times, and the rest is told by the new sums
chain : (s : ℕ) (n p₀ m p₁ p₂ w t : Bool) → (T t → T n) → (T t → T p₀) → (T t → T m) → (T t → T p₁) → (T t → T p₂) → (T t → T w)
    → first (first (first s (ok n)) (ok p₀)) (first (ok m) (first (first (first s (ok n)) (ok p₁)) (first (first (first s (ok n)) (ok p₂)) (first (ok w) (ok t))))) ≡ first s (ok t)
chain (suc s) n p₀ m p₁ p₂ w t a b c d e f = unfold first in refl
chain zero n p₀ m p₁ p₂ w t a b c d e f = simp (first_assoc, zero_first, absorb n t a, absorb p₀ t b, absorb m t c, absorb p₁ t d, absorb p₂ t e, absorb w t f)

module _ (v : Revolved) (p : PathPoint) (h wgt : Float) (s : SurfaceIntegrals) where
  abbrev bearing : RadialNormal
  bearing = (radial_normal_c v p.theta).value

  abbrev middle : Float
  middle = mul binary64 half p.z

  abbrev at : Float → SurfaceIntegrals
  at z = (patch_c v bearing z).value

  pub node_value : (node_c v p h wgt s).value ≡ (terms_c (weight_c p h wgt).value s (at nought) (at middle) (at p.z)).value
  unfolding node_c integrand_c
  node_value = refl

  pub node_refusal : (node_c v p h wgt s).refusal ≡ first (sincos_c p.theta).refusal (surface_nine (node_c v p h wgt s).value)
  unfolding node_c integrand_c
  node_refusal =
      let w = (weight_c p h wgt).value in
      let t = finite_surface (terms_c w s (at nought) (at middle) (at p.z)).value in
      let parts : T t → T (is_finite w) × (T (finite_surface (at nought)) × (T (finite_surface (at middle)) × T (finite_surface (at p.z)))) = terms_parts w s (at nought) (at middle) (at p.z) in
      simp (bearing_refusal, patch_nine, weight_nine, terms_nine, nines_ok, nine_ok w, nine_ok middle, sums_ok, zero_first)
      (chain (sincos_c p.theta).refusal (is_finite3 bearing.normal) (finite_surface (at nought)) (is_finite middle) (finite_surface (at middle)) (finite_surface (at p.z)) (is_finite w) t
      (λ f. (patch_parts v bearing nought (parts f).1.0).0)
      (λ f. (parts f).1.0)
      (λ f. (patch_parts v bearing middle (parts f).1.1.0).1)
      (λ f. (parts f).1.1.0)
      (λ f. (parts f).1.1.1)
      (λ f. (parts f).0))
