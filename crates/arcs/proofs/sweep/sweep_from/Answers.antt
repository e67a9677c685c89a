use Rattle.std.specs.Prelude.{refl}
use Rattle.checked.specs.ToldLaws.{none_met, value_is, met_is, follows, stops, rules as told_rules}
use Rattle.arcs.specs.Sweep.{sweep_from_c}
use Rattle.arcs.specs.SweepLaws.{sweep_from_refusal}
use Rattle.arcs.proofs.sweep.sweep_from.Goals as goal

pub returns-in_err-t : goal.returns-in_err-t
returns-in_err-t c =
    let t = simp (c.dot-2.ensures, c.dot.ensures, c.cross.ensures, c.minus-v.ensures) at c.in_err-t.ensures in
    stops _ _ _ c.from_residual.ensures (simp (sweep_from_refusal, met_is _ _ t, told_rules))

pub returns : goal.returns
returns c =
    let t = simp (c.dot-2.ensures, c.dot.ensures, c.cross.ensures, c.minus-v.ensures) at c.in_ok-t.ensures in
    let a = simp (c.ahead.ensures, ← value_is _ _ t) at c.finite.ensures in
    follows _ _ _ _ a
    (simp (sweep_from_refusal, none_met _ _ t, told_rules) (unfold sweep_from_c in refl))
    (unfold sweep_from_c in refl)
