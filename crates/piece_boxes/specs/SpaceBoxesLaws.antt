-- Where no refusal is met, every point by which a piece widens a box is finite; and which notes
-- suffice. Assumes nothing.
use Rattle.std.specs.Prelude.{◌≡◌, Float}
use Rattle.std.proofs.Math.Path.{refl}
use Rattle.checked.specs.Checked.{Checked, first}
use Rattle.checked.specs.Laws.{rules as checked_rules}
use Rattle.vectors.specs.declared.Vec3.{Vec3}
use Rattle.vectors.specs.Vectors.{plane, nines, plus_c, times_c}
use Rattle.vectors.specs.Laws.{rules as vectors_rules}
use Rattle.boxes.specs.Boxes.{Sound}
use Rattle.boxes.proofs.Laws.{sound_then, sound_append}
use Rattle.arcs.specs.Extremes as arcs
use Rattle.arcs.specs.Sound as arcs_sound
use Rattle.developments.specs.declared.Development.{Development}
use Rattle.developments.specs.Formulas.{point_c}
use Rattle.piece_boxes.specs.declared.brackets.FlatBox.{FlatBox}
use Rattle.piece_curves.specs.declared.PieceCurve.{PieceCurve}
use Rattle.piece_boxes.specs.CurveBoxes.{box_c}
use Rattle.piece_boxes.specs.SpaceBoxes as bounds

module _ (dev : Development) (radius u0 u1 v : Float) where
  abbrev center : Vec3
  center = (plus_c dev.origin (times_c dev.axis v).value).value

  abbrev first_end : Checked Vec3
  first_end = point_c dev.origin dev.axis dev.start dev.neutral (plane u0 v) radius

  abbrev last_end : Checked Vec3
  last_end = point_c dev.origin dev.axis dev.start dev.neutral (plane u1 v) radius

  pub rim_refusal : (bounds.end_arc_c dev radius u0 u1 v).refusal ≡ first (nines center) (first first_end.refusal (first last_end.refusal (arcs.points_c center dev.axis radius first_end.value last_end.value).refusal))
  unfolding bounds.end_arc_c
  rim_refusal = simp (checked_rules, vectors_rules)

  pub rim_value : (bounds.end_arc_c dev radius u0 u1 v).value ≡ (arcs.points_c center dev.axis radius first_end.value last_end.value).value
  unfolding bounds.end_arc_c
  rim_value = refl

  pub rim_sound : Sound (bounds.end_arc_c dev radius u0 u1 v)
  unfolding bounds.end_arc_c
  rim_sound =
      sound_then _ _ (λ _.
      sound_then first_end.refusal _ (λ _.
      sound_then last_end.refusal (arcs.points_c center dev.axis radius first_end.value last_end.value) (λ _.
      arcs_sound.points_sound center dev.axis radius first_end.value last_end.value)))

pub rims_sound : (dev : Development) (radius : Float) (b : FlatBox) → Sound (bounds.end_arcs_c dev radius b)
unfolding bounds.end_arcs_c
rims_sound dev radius b = sound_append _ _ (rim_sound dev radius b.low.x b.high.x b.low.y) (rim_sound dev radius b.low.x b.high.x b.high.y)

pub points_sound : (dev : Development) (radius : Float) (r : PieceCurve) → Sound (bounds.points_c dev radius r)
unfolding bounds.points_c
points_sound dev radius r = sound_then (box_c r).refusal (bounds.end_arcs_c dev radius (box_c r).value) (λ _. rims_sound dev radius (box_c r).value)
