use Rattle.std.specs.Prelude.{refl}
use Rattle.checked.specs.ToldLaws.{none_met, value_is, met_is, follows, stops, rules as told_rules}
use Rattle.chord_counts.specs.Counts.{count_c}
use Rattle.chord_counts.proofs.counts.count.Goals as goal

pub returns-in_err-c : goal.returns-in_err-c
unfolding count_c
returns-in_err-c c =
    let up = simp c.ceil.ensures at c.in_err-c.ensures in
    stops _ _ _ c.from_residual.ensures (simp (met_is _ _ up, told_rules))

pub returns : goal.returns
unfolding count_c
returns c =
    let up = simp c.ceil.ensures at c.in_ok-c.ensures in
    let n = simp (c.greatest.ensures, ← value_is _ _ up) at c.limited.ensures in
    follows _ _ _ _ n (simp (none_met _ _ up, told_rules)) refl
