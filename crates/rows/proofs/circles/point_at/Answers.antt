use Rattle.std.specs.Prelude.{refl}
use Rattle.rows.specs.Circles.{circle_at_c}
use Rattle.checked.specs.ToldLaws.{follows}
use Rattle.rows.specs.CirclesLaws.{rim_at_refusal}
use Rattle.rows.proofs.circles.point_at.Goals as goal

pub returns : goal.returns
returns c = follows _ _ _ _ c.point.ensures (rim_at_refusal c.args.rim c.args.turn c.args.n c.args.k) (unfold circle_at_c in refl)
