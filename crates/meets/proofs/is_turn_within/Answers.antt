use Rattle.std.specs.Prelude.{◌≡◌, Bool, ◌&&◌, Option, Some, None, IsTrue, MatchOption}
use Rattle.std.proofs.Common.{rules}
use Rattle.checked.specs.Checked.{within}
use Rattle.meets.specs.declared.Angles.{Angles}
use Rattle.meets.specs.Entries.{turn_within}
use Rattle.meets.proofs.is_turn_within.Goals as goal

by : (o : Option Angles) (r : Bool) (P : Angles → Type 0) → MatchOption o (IsTrue r) P → ((a : Angles) → P a → r ≡ (within a.from && within a.to)) → r ≡ turn_within o
unfolding turn_within
by None r P h k = h
by (Some a) r P h k = k a h

pub returns : goal.returns
returns c = by _ _ _ c.is_none_or.ensures (λ a h. search rules)
