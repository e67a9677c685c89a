use Rattle.std.proofs.Common.{rules, of_calls}
use Rattle.piece_rows.specs.Inner.{inner_c, inners_due}
use Rattle.piece_rows.proofs.write_points.Goals as goal

pub returns : goal.returns
unfolding inners_due
returns c = simp (← c.saturating_sub.ensures) (c.write.ensures (inner_c c.args.g c.args.n) (λ k r below given. search (rules, of_calls)))
