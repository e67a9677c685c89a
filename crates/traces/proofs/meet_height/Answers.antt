use mathlib.Core.Path.{refl}
use Rattle.traces.specs.Traces.{meet_height_c}
use Rattle.checked.specs.Laws.{rules as checked_rules}
use Rattle.checked.specs.ToldLaws.{stops, follows, none_met, value_is, met_is, rules as told_rules}
use Rattle.traces.proofs.meet_height.Goals as goal

pub returns-in_err-phi : goal.returns-in_err-phi
returns-in_err-phi c = stops _ _ _ c.from_residual.ensures (unfold meet_height_c in simp (checked_rules, met_is _ _ c.in_err-phi.ensures, told_rules))

pub returns : goal.returns
returns c =
    let q = c.in_ok-phi.ensures in
    let h = simp (← value_is _ _ q) at c.height.ensures in
    follows _ _ _ _ h (unfold meet_height_c in simp (checked_rules, none_met _ _ q)) (unfold meet_height_c in refl)
