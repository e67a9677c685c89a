-- The points by which a curve widens a box. Assumes nothing.
use Rattle.std.specs.Prelude.{◌≡◌}
use Rattle.std.proofs.Common.{ap}
use Rattle.vectors.specs.declared.Vec3.{Vec3}
use Rattle.boxes.specs.Boxes.{Sound}
use Rattle.arcs.specs.Sound as arcs_sound
use Rattle.arcs.specs.declared.Arc.{Arc}
use Rattle.arcs.specs.Entries.{points}
use Rattle.curves.specs.Parts.{piece_c}
use Rattle.curves.specs.PartsLaws.{piece_sound}
use Rattle.curves.specs.declared.Curve.{Curve}
use Rattle.curves.specs.declared.Curve.TheVariants as curve
use Rattle.curves.specs.declared.RolledAt.{RolledAt}
use Rattle.curves.specs.Curves.{points_c}

-- where no refusal is met, every point by which a curve widens a box is finite
pub points_sound : (c : Curve) (from to : Vec3) → Sound (points_c c from to)
unfolding points_c
points_sound (curve.Arc a) from to = arcs_sound.points_sound a.center a.axis a.radius from to
points_sound (curve.Rolled w) from to = piece_sound w.piece w.radius

-- the points of a curve that is known to be an arc, or a piece
pub points_arc : {c : Curve} {a : Arc} → c ≡ curve.Arc a → (from to : Vec3) → points_c c from to ≡ points a from to
unfolding points_c
points_arc e from to = ap (λ (d : Curve). points_c d from to) e

pub points_piece : {c : Curve} {w : RolledAt} → c ≡ curve.Rolled w → (from to : Vec3) → points_c c from to ≡ piece_c w.piece w.radius
unfolding points_c
points_piece e from to = ap (λ (d : Curve). points_c d from to) e
