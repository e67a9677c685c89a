use Rattle.checked.specs.ToldLaws.{none_met, value_is, met_is, gives, stops}
use Rattle.integrals.specs.Integrands.{radial_normal_c}
use Rattle.integrals.proofs.integrands.radial_normal_at.Goals as goal

pub returns-in_err-s : goal.returns-in_err-s
returns-in_err-s c = stops _ _ _ c.from_residual.ensures (met_is _ _ c.in_err-s.ensures)

pub returns : goal.returns
returns c =
    let s = c.in_ok-s.ensures in
    gives _ _ (none_met _ _ s)
    (unfold radial_normal_c in simp (c.minus-normal.ensures, c.times-3.ensures, c.plus-out.ensures, c.times-2.ensures, c.times.ensures, value_is _ _ s))
