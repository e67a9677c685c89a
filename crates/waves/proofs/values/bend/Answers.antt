use Rattle.waves.specs.Values.{bend_c}
use Rattle.checked.specs.ToldLaws.{stops, follows, none_met, value_is, met_is, rules as told_rules}
use Rattle.waves.specs.ValuesLaws.{bend_refusal}
use Rattle.waves.proofs.values.bend.Goals as goal

pub returns-in_err-t : goal.returns-in_err-t
returns-in_err-t c =
    stops _ _ _ c.from_residual.ensures (simp (bend_refusal, met_is _ _ c.in_err-t.ensures, told_rules))

pub returns-in_err-s : goal.returns-in_err-s
returns-in_err-s c =
    let t = c.in_ok-t.ensures in
    stops _ _ _ c.from_residual-in_err-s.ensures
    (simp (bend_refusal, none_met _ _ t, told_rules) (unfold bend_c in simp (value_is _ _ t, met_is _ _ c.in_err-s.ensures, told_rules)))

pub returns : goal.returns
returns c =
    let t = c.in_ok-t.ensures in
    let s = c.in_ok-s.ensures in
    let e = simp (← value_is _ _ s) at c.finite-2.ensures in
    follows _ _ _ _ e
    (simp (bend_refusal, none_met _ _ t, told_rules) (unfold bend_c in simp (value_is _ _ t, none_met _ _ s, told_rules)))
    (unfold bend_c in simp (value_is _ _ t))
