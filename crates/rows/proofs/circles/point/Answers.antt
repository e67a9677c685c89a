use Rattle.std.specs.Prelude.{refl}
use Rattle.checked.specs.ToldLaws.{none_met, value_is, met_is, follows, stops, rules as told_rules}
use Rattle.rows.specs.Circles.{circle_c}
use Rattle.rows.specs.CirclesLaws.{rim_refusal}
use Rattle.rows.proofs.circles.point.Goals as goal

pub returns-in_err-s : goal.returns-in_err-s
returns-in_err-s c = stops _ _ _ c.from_residual.ensures (simp (rim_refusal, met_is _ _ c.in_err-s.ensures, told_rules))

pub returns : goal.returns
returns c =
    let s = c.in_ok-s.ensures in
    let p = simp (c.plus-2.ensures, c.times-2.ensures, c.plus.ensures, c.times.ensures, ← value_is _ _ s) at c.finite3.ensures in
    follows _ _ _ _ p
    (simp (rim_refusal, none_met _ _ s, told_rules) (unfold circle_c in refl))
    (unfold circle_c in refl)
