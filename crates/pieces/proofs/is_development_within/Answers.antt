use Rattle.checked.specs.Checked.{within}
use Rattle.vectors.specs.Vectors.{within3}
use Rattle.developments.specs.Developments.{development_within}
use Rattle.pieces.specs.Laws.{pairs}
use Rattle.pieces.proofs.is_development_within.Goals as goal

pub returns : goal.returns
unfolding development_within within3
returns c =
    let d = c.args.d in
    simp (c.is_within-10.ensures, c.is_within-9.ensures, c.is_within-8.ensures, c.is_within-7.ensures, c.is_within-6.ensures, c.is_within-5.ensures, c.is_within-4.ensures, c.is_within-3.ensures, c.is_within-2.ensures, c.is_within.ensures) (pairs (within d.origin.x) (within d.origin.y) (within d.origin.z) (within d.axis.x) (within d.axis.y) (within d.axis.z) (within d.start.x) (within d.start.y) (within d.start.z) (within d.neutral))
