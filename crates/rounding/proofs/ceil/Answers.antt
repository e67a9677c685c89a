-- `ceil` meets its contract. `proofs/Wholes.antt` says what each arm returns. Assumes nothing.
use lib.Ieee.{of_bits, neg}
use Rattle.checked.specs.PatternLaws.{yes, no}
use Rattle.rounding.proofs.Wholes.{small, small_below, large, large_below, flat, turned_below, ceil_up_at, ceil_stays_at, ceil_below_less_at, ceil_below_stays_at, ceil_large, ceil_flat}
use Rattle.rounding.proofs.ceil.Goals as goal

pub nearest_whole-y-requires-clause-below_wholes : goal.nearest_whole-y-requires-clause-below_wholes
unfolding of_bits
nearest_whole-y-requires-clause-below_wholes c = yes c.if-x-2.true

pub nearest_whole-y-requires-then-x-4 : goal.nearest_whole-y-requires-then-x-4
unfolding of_bits neg
nearest_whole-y-requires-then-x-4 c =
    let t = turned_below c.args.x (small_below c.args.x (yes c.if-x-3.true) (yes c.if-x-4.true)) in
    record { above_zero = t.0; below_wholes = t.1 }

pub returns-then-y-x : goal.returns-then-y-x
unfolding of_bits
returns-then-y-x c =
    ceil_up_at c.args.x c.nearest_whole-y.result (small c.args.x (yes c.if-x.true) (yes c.if-x-2.true)) c.nearest_whole-y.ensures (yes c.if-y-x.true)

pub returns-else-y-x : goal.returns-else-y-x
unfolding of_bits
returns-else-y-x c =
    ceil_stays_at c.args.x c.nearest_whole-y.result (small c.args.x (yes c.if-x.true) (yes c.if-x-2.true)) c.nearest_whole-y.ensures (no c.if-y-x.false)

pub returns-else-x-2 : goal.returns-else-x-2
unfolding of_bits
returns-else-x-2 c =
    ceil_large c.args.x (yes c.well_formed.0.1) (large c.args.x (yes c.well_formed.0.1) (yes c.if-x.true) (no c.if-x-2.false))

pub returns-then-x-y : goal.returns-then-x-y
unfolding of_bits neg
returns-then-x-y c =
    ceil_below_less_at c.args.x (small_below c.args.x (yes c.if-x-3.true) (yes c.if-x-4.true)) c.nearest_whole-y-then-x-4.result c.nearest_whole-y-then-x-4.ensures (yes c.if-x-y.true)

pub returns-else-x-y : goal.returns-else-x-y
unfolding of_bits neg
returns-else-x-y c =
    ceil_below_stays_at c.args.x (small_below c.args.x (yes c.if-x-3.true) (yes c.if-x-4.true)) c.nearest_whole-y-then-x-4.result c.nearest_whole-y-then-x-4.ensures (no c.if-x-y.false)

pub returns-else-x-4 : goal.returns-else-x-4
unfolding of_bits neg
returns-else-x-4 c =
    ceil_large c.args.x (yes c.well_formed.0.1) (large_below c.args.x (yes c.well_formed.0.1) (yes c.if-x-3.true) (no c.if-x-4.false))

pub returns-else-x-3 : goal.returns-else-x-3
unfolding of_bits
returns-else-x-3 c =
    ceil_flat c.args.x (flat c.args.x (yes c.well_formed.0.1) (no c.if-x.false) (no c.if-x-3.false))
