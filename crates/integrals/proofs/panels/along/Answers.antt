use mathlib.Core.Path.{◌≡◌}
use native.Mathlib.Omega.{arith}
use Rattle.checked.specs.ToldLaws.{met_is, stops}
use Rattle.integrals.specs.FoldLaws.{reached_none, reached_more, reached_met}
use Rattle.integrals.specs.PanelLaws.{along_none, along_goes}
use Rattle.integrals.proofs.panels.along.Goals as goal

pub returns-in_err-h : goal.returns-in_err-h
returns-in_err-h g c = stops _ _ _ c.from_residual.ensures (along_none _ _ _ _ c.in_err-h.ensures)

pub loop-i-init : goal.loop-i-init
loop-i-init g c = reached_none _ _

pub returns-in_err-a : goal.returns-in_err-a
returns-in_err-a g c =
    along_goes _ _ _ _ _ c.in_ok-h.ensures (stops _ _ _ c.from_residual-in_err-a.ensures (reached_met _ _ _ _ _ _ c.loop-i.invariant (omega arith) (met_is _ _ c.in_err-a.ensures)))

pub loop-i-preserved : goal.loop-i-preserved
loop-i-preserved g c = reached_more _ _ _ _ _ c.loop-i.invariant c.in_ok-a.ensures

pub returns : goal.returns
returns g c =
    let all : c.loop-i.i ≡ c.args.n = omega arith in
    along_goes _ _ _ _ _ c.in_ok-h.ensures (rw all at c.loop-i.invariant)
