-- Where no refusal is met, every point that widens a box is finite. Assumes nothing.
use Rattle.std.specs.Prelude.{◌≡◌, Bool, true, false, cond, List, [], ◌∷◌, ◌++◌, T, Float}
use Rattle.std.proofs.Common.{sym, ◌∙◌, subst, arith}
use Rattle.std.specs.Float.Ieee.{lt, neg}
use Rattle.checked.specs.Checked.{Checked, given}
use Rattle.checked.specs.Laws.{ok, first_none}
use Rattle.checked.specs.Numbers.{zero, one}
use Rattle.vectors.specs.declared.Vec3.{Vec3}
use Rattle.vectors.specs.Vectors.{along_x, along_y, along_z, is_finite3, minus_c}
use Rattle.vectors.specs.Laws.{minus_left}
use Rattle.directions.specs.Directions.{length_c, across_c}
use Rattle.boxes.specs.Boxes.{Sound, AllFinite, ◌⧺◌}
use Rattle.boxes.proofs.Laws.{nines_finite, finite_none, finite_cons, finite_append, sound_none, sound_then, sound_append, sound_either}
use Rattle.arcs.specs.Sweep.{sweep_from_c}
use Rattle.arcs.specs.SweepLaws.{swept, sweep_from_ok, swept_finite}
use Rattle.arcs.specs.Extremes.{side_c, taken_c, both_c, extremes_c, points_c}
use Rattle.arcs.specs.ExtremesLaws.{side_nine, points_refusal, points_value}

taken_sound : (sweep : Vec3 → Checked Float) (turn : Float) (p : Vec3) → T (is_finite3 p) → Sound (taken_c sweep turn p)
unfolding taken_c
taken_sound sweep turn p P h = either (lt (sweep p).value turn)
  where
    either : (t : Bool) → AllFinite (cond t (p ∷ []) [])
    either true = finite_cons p [] P finite_none
    either false = finite_none

both_sound : (center : Vec3) (radius : Float) (sweep : Vec3 → Checked Float) (turn : Float) (w : Vec3) (len : Float) → Sound (both_c center radius sweep turn w len)
unfolding both_c
both_sound center radius sweep turn w len =
    let candidate : (s : Float) → (side_c center radius w len s).refusal ≡ 0 → T (is_finite3 (side_c center radius w len s).value) = λ s h. nines_finite (side_c center radius w len s).value (sym (side_nine center radius w len s) ∙ h) in
    let taken : Float → Checked (List Vec3) = λ s. taken_c sweep turn (side_c center radius w len s).value in
    sound_then (side_c center radius w len one).refusal _ (λ p.
    sound_then (side_c center radius w len (neg one)).refusal (taken one ⧺ taken (neg one)) (λ q.
    sound_append (taken one) (taken (neg one)) (taken_sound sweep turn _ (candidate one p)) (taken_sound sweep turn _ (candidate (neg one) q))))

extremes_sound : (center axis : Vec3) (radius : Float) (sweep : Vec3 → Checked Float) (turn : Float) (e : Vec3) → Sound (extremes_c center axis radius sweep turn e)
unfolding extremes_c
extremes_sound center axis radius sweep turn e =
    let w₁ = (across_c axis e).value in
    let w = (across_c axis w₁).value in
    let len = (length_c w).value in
    sound_then (across_c axis e).refusal _ (λ _.
    sound_then (across_c axis w₁).refusal _ (λ _.
    sound_then (length_c w).refusal (cond (lt zero len) (both_c center radius sweep turn w len) (given [])) (λ _.
    sound_either (lt zero len) (both_c center radius sweep turn w len) (given []) (both_sound center radius sweep turn w len) sound_none)))

ok_none : (b : Bool) → ok b ≡ 0 → T b
unfolding ok
ok_none true h = tt
ok_none false h = absurd (omega arith)

pub points_sound : (center axis : Vec3) (radius : Float) (from to : Vec3) → Sound (points_c center axis radius from to)
points_sound center axis radius from to h =
    let u = (minus_c from center).value in
    let start = sweep_from_c center axis u in
    let extremes = extremes_c center axis radius start (start to).value in
    let all = first_none (start to).refusal _ (sym (points_refusal center axis radius from to) ∙ h) in
    let x = first_none (extremes along_x).refusal _ all.1 in
    let yz = first_none (extremes along_y).refusal (extremes along_z).refusal x.1 in
    let ends = swept_finite center axis u to (ok_none (swept center axis u to) (sym (sweep_from_ok center axis u to) ∙ all.0)) in
    let sound : (e : Vec3) → Sound (extremes e) = λ e. extremes_sound center axis radius start (start to).value e in
    subst AllFinite (sym (points_value center axis radius from to))
    (finite_cons from _ (minus_left from center ends.0)
    (finite_cons to _ ends.1
    (finite_append (extremes along_x).value ((extremes along_y).value ++ (extremes along_z).value) (sound along_x x.0)
    (finite_append (extremes along_y).value (extremes along_z).value (sound along_y yz.0) (sound along_z yz.1)))))
