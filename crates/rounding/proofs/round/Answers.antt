-- `round` meets its contract. `proofs/Wholes.antt` says what each arm returns. Assumes nothing.
use mathlib.Core.Path.{ap, ◌∙◌}
use lib.Ieee.{of_bits, neg}
use Rattle.checked.specs.PatternLaws.{yes, no}
use Rattle.rounding.proofs.Wholes.{small_below, large, large_below, flat, turned_below, round_below_at, round_large, round_flat}
use Rattle.rounding.proofs.round.Goals as goal

pub nearest_up-requires-clause-below_wholes : goal.nearest_up-requires-clause-below_wholes
unfolding of_bits
nearest_up-requires-clause-below_wholes c = yes c.if-x-2.true

pub nearest_up-requires-then-x-4 : goal.nearest_up-requires-then-x-4
unfolding of_bits neg
nearest_up-requires-then-x-4 c =
    let t = turned_below c.args.x (small_below c.args.x (yes c.if-x-3.true) (yes c.if-x-4.true)) in
    record { above_zero = t.0; below_wholes = t.1 }

pub returns-then-x-2 : goal.returns-then-x-2
unfolding of_bits
returns-then-x-2 c = c.nearest_up.ensures

pub returns-else-x-2 : goal.returns-else-x-2
unfolding of_bits
returns-else-x-2 c =
    round_large c.args.x (yes c.well_formed.0.1) (large c.args.x (yes c.well_formed.0.1) (yes c.if-x.true) (no c.if-x-2.false))

pub returns-then-x-4 : goal.returns-then-x-4
unfolding of_bits neg
returns-then-x-4 c = ap neg c.nearest_up-then-x-4.ensures ∙ round_below_at c.args.x (small_below c.args.x (yes c.if-x-3.true) (yes c.if-x-4.true))

pub returns-else-x-4 : goal.returns-else-x-4
unfolding of_bits neg
returns-else-x-4 c =
    round_large c.args.x (yes c.well_formed.0.1) (large_below c.args.x (yes c.well_formed.0.1) (yes c.if-x-3.true) (no c.if-x-4.false))

pub returns-else-x-3 : goal.returns-else-x-3
unfolding of_bits
returns-else-x-3 c =
    round_flat c.args.x (flat c.args.x (yes c.well_formed.0.1) (no c.if-x.false) (no c.if-x-3.false))
