use Rattle.std.specs.Prelude.{refl}
use Rattle.checked.specs.ToldLaws.{none_met, value_is, met_is, follows, stops, rules as told_rules}
use Rattle.profile_arcs.specs.Profiles.{turn_c}
use Rattle.profile_arcs.specs.Laws.{turn_refusal}
use Rattle.profile_arcs.proofs.formula.turn.Goals as goal

pub returns-in_err-t : goal.returns-in_err-t
returns-in_err-t c =
    let t = simp (c.apart-u.ensures, c.apart-v.ensures) at c.in_err-t.ensures in
    stops _ _ _ c.from_residual.ensures (simp (turn_refusal, met_is _ _ t, told_rules))

pub returns : goal.returns
returns c =
    let t = simp (c.apart-u.ensures, c.apart-v.ensures) at c.in_ok-t.ensures in
    let turn = simp (c.turned.ensures, ← value_is _ _ t) at c.finite.ensures in
    follows _ _ _ _ turn
    (simp (turn_refusal, none_met _ _ t, told_rules) (unfold turn_c in refl))
    (unfold turn_c in refl)
