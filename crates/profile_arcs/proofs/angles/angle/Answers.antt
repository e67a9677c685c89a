use Rattle.std.specs.Prelude.{refl}
use Rattle.checked.specs.ToldLaws.{none_met, met_is, follows, stops, rules as told_rules}
use Rattle.profile_arcs.proofs.angles.angle.Goals as goal

pub returns-in_err-finite : goal.returns-in_err-finite
returns-in_err-finite c = stops _ _ _ c.from_residual.ensures (simp (met_is _ _ c.in_err-finite.ensures, told_rules))

pub returns-in_err-finite-2 : goal.returns-in_err-finite-2
returns-in_err-finite-2 c = stops _ _ _ c.from_residual-in_err-finite-2.ensures (simp (none_met _ _ c.in_ok-finite.ensures, met_is _ _ c.in_err-finite-2.ensures, told_rules))

pub returns : goal.returns
returns c =
    let t = simp c.atan2.ensures at c.finite-3.ensures in
    follows _ _ _ _ t (simp (none_met _ _ c.in_ok-finite.ensures, none_met _ _ c.in_ok-finite-2.ensures, told_rules)) refl
