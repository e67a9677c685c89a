use Rattle.std.specs.Prelude.{refl}
use Rattle.checked.specs.ToldLaws.{none_met, value_is, met_is, follows, stops, rules as told_rules}
use Rattle.piece_rows.specs.Inner.{inner_c}
use Rattle.piece_rows.proofs.point_at.Goals as goal

pub returns-in_err-t : goal.returns-in_err-t
unfolding inner_c
returns-in_err-t c = stops _ _ _ c.from_residual.ensures (simp (met_is _ _ c.in_err-t.ensures, told_rules))

pub returns : goal.returns
unfolding inner_c
returns c =
    let t = c.in_ok-t.ensures in
    let p = simp (← value_is _ _ t) at c.rolled_point.ensures in
    follows _ _ _ _ p (simp (none_met _ _ t, told_rules)) refl
