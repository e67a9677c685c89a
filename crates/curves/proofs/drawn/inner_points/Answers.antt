use Rattle.rows.specs.Rows.{point}
use Rattle.rows.specs.Laws.{part_written, part_within}
use Rattle.curves.proofs.drawn.inner_points.Goals as goal

pub slice_bounds-result-end : goal.slice_bounds-result-end
slice_bounds-result-end c = part_within point _ _ _ _ c.in_ok-n.ensures

pub returns : goal.returns
returns c = part_written point _ _ _ _ c.in_ok-n.ensures
