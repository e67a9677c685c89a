use mathlib.Core.Path.{◌≡◌}
use native.Mathlib.Omega.{arith}
use Rattle.checked.specs.ToldLaws.{stops}
use Rattle.integrals.specs.FoldLaws.{reached_none, reached_more, reached_met}
use Rattle.integrals.specs.PanelLaws.{pair_low, pair_high, pair_first, pair_second, pair_done, panel_none, panel_goes}
use Rattle.integrals.proofs.panels.panel.Goals as goal

pub returns-in_err-mid : goal.returns-in_err-mid
returns-in_err-mid g c = stops _ _ _ c.from_residual.ensures (panel_none _ _ _ _ _ c.in_err-mid.ensures)

pub loop-j-init : goal.loop-j-init
loop-j-init g c = reached_none _ _

pub returns-in_err-low : goal.returns-in_err-low
returns-in_err-low g c =
    let met = pair_low _ _ _ _ _ _ _ c.in_err-low.ensures in
    panel_goes _ _ _ _ _ _ c.in_ok-mid.ensures (stops _ _ _ c.from_residual-in_err-low.ensures (reached_met _ _ 4 _ _ _ c.loop-j.invariant (omega arith) met))

pub returns-in_err-high : goal.returns-in_err-high
returns-in_err-high g c =
    let met = pair_high _ _ _ _ _ _ _ c.in_ok-low.ensures _ c.in_err-high.ensures in
    panel_goes _ _ _ _ _ _ c.in_ok-mid.ensures (stops _ _ _ c.from_residual-in_err-high.ensures (reached_met _ _ 4 _ _ _ c.loop-j.invariant (omega arith) met))

pub returns-in_err-b : goal.returns-in_err-b
returns-in_err-b g c =
    let met = pair_first _ _ _ _ _ _ _ c.in_ok-low.ensures _ c.in_ok-high.ensures _ c.in_err-b.ensures in
    panel_goes _ _ _ _ _ _ c.in_ok-mid.ensures (stops _ _ _ c.from_residual-in_err-b.ensures (reached_met _ _ 4 _ _ _ c.loop-j.invariant (omega arith) met))

pub returns-in_err-a : goal.returns-in_err-a
returns-in_err-a g c =
    let met = pair_second _ _ _ _ _ _ _ c.in_ok-low.ensures _ c.in_ok-high.ensures _ c.in_ok-b.ensures _ c.in_err-a.ensures in
    panel_goes _ _ _ _ _ _ c.in_ok-mid.ensures (stops _ _ _ c.from_residual-in_err-a.ensures (reached_met _ _ 4 _ _ _ c.loop-j.invariant (omega arith) met))

pub loop-j-preserved : goal.loop-j-preserved
loop-j-preserved g c = reached_more _ _ _ _ _ c.loop-j.invariant (pair_done _ _ _ _ _ _ _ c.in_ok-low.ensures _ c.in_ok-high.ensures _ c.in_ok-b.ensures _ c.in_ok-a.ensures)

pub returns : goal.returns
returns g c =
    let all : c.loop-j.j ≡ 4 = omega arith in
    panel_goes _ _ _ _ _ _ c.in_ok-mid.ensures (rw all at c.loop-j.invariant)
