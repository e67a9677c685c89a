-- `nearest_root` meets its contract. The arithmetic is in `proofs/Digits.antt`. Assumes nothing.
use Rattle.rounding.proofs.whole_roots.Digits.{near_down}
use Rattle.rounding.proofs.whole_roots.nearest_root.Goals as goal

pub returns-else-d-c : goal.returns-else-d-c
returns-else-d-c c =
    near_down c.args.n c.whole_root-s.result c.requires.0 c.requires.1 c.whole_root-s.ensures.0 c.whole_root-s.ensures.1 c.if-d-c.false
