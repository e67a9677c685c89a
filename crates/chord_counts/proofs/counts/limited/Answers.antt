use Rattle.std.proofs.Common.{arith}
use lib.Ieee.{of_bits, neg}
use Rattle.checked.specs.Checked.{settled}
use Rattle.checked.specs.Laws.{settled_none}
use Rattle.checked.specs.PatternLaws.{yes}
use Rattle.chord_counts.specs.Laws.{none_left, at_most, fits_u64}
use Rattle.chord_counts.specs.Counts.{limited_c}
use Rattle.chord_counts.proofs.counts.limited.Goals as goal

pub truncating_f64_to_u64-requires : goal.truncating_f64_to_u64-requires
unfolding of_bits neg
truncating_f64_to_u64-requires c = record {
  lower_bound = yes c.if-x.true;
  upper_bound = fits_u64 _ _ (omega arith) (yes c.if-x-limit.true);
}

pub overflow_cast-result : goal.overflow_cast-result
overflow_cast-result c = omega (arith, c.truncating_f64_to_u64.ensures, at_most _ _ (omega arith) (yes c.if-x-limit.true))

pub returns-then-x : goal.returns-then-x
unfolding limited_c
returns-then-x c = simp (c.truncating_f64_to_u64.ensures, c.if-x-limit.true, settled_none)

pub returns-else-x : goal.returns-else-x
unfolding limited_c
returns-else-x c = simp (none_left _ c.if-x.false, c.if-x-limit.true, settled_none)

pub returns-else-x-limit : goal.returns-else-x-limit
unfolding limited_c settled
returns-else-x-limit c = simp c.if-x-limit.false
