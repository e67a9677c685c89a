-- `nearest_up` meets its contract. `proofs/Wholes.antt` says what each arm returns. Assumes
-- nothing.
use lib.Ieee.{of_bits}
use Rattle.checked.specs.PatternLaws.{yes, no}
use Rattle.rounding.proofs.Wholes.{small, round_up_at, round_stays_at}
use Rattle.rounding.proofs.nearest_up.Goals as goal

pub returns-then-a-y : goal.returns-then-a-y
unfolding of_bits
returns-then-a-y c =
    round_stays_at c.args.a c.nearest_whole-y.result (small c.args.a c.requires.above_zero c.requires.below_wholes) c.nearest_whole-y.ensures (yes c.if-a-y.true)

pub returns-else-a-y : goal.returns-else-a-y
unfolding of_bits
returns-else-a-y c =
    round_up_at c.args.a c.nearest_whole-y.result (small c.args.a c.requires.above_zero c.requires.below_wholes) c.nearest_whole-y.ensures (no c.if-a-y.false)
