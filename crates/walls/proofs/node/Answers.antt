use mathlib.Core.Path.{◌∙◌}
use Rattle.std.specs.Prelude.{◌≡◌}
use Rattle.checked.specs.ToldLaws.{none_met, value_is, met_is, follows, stops, rules as told_rules}
use Rattle.walls.specs.Walls.{node_c}
use Rattle.walls.specs.Laws.{station_refusal, station_value}
use Rattle.walls.proofs.node.Goals as goal

pub returns-in_err-radial : goal.returns-in_err-radial
returns-in_err-radial c = stops _ _ _ c.from_residual.ensures (station_refusal _ _ _ _ _ _ ∙ rw (met_is _ _ c.in_err-radial.ensures) (simp told_rules))

pub returns : goal.returns
returns c =
    let radial = c.in_ok-radial.ensures in
    let after : (node_c c.args.v c.args.p c.args.d c.args.h c.args.wt c.args.s).value ≡ c.radii.result = simp (station_value, c.radii.ensures, ← value_is _ _ radial) in
    follows _ _ _ _ c.finite.ensures (simp (station_refusal, none_met _ _ radial, after, told_rules)) after
