use Rattle.std.proofs.Common.{◌∙◌}
use Rattle.arcs.specs.Chords.{inner_c, inners_due}
use Rattle.arcs.specs.ChordsLaws.{point_is}
use Rattle.arcs.proofs.chords.write_points.Goals as goal

pub returns : goal.returns
unfolding inners_due
returns c =
    let a = c.args in
    simp (← c.saturating_sub.ensures)
    (c.write.ensures (inner_c a.arc.center a.arc.axis a.arc.radius a.from a.cut) (λ k r below given. given ∙ point_is a.arc.center a.arc.axis a.arc.radius a.from a.cut _ k c.rim-rim.ensures))
