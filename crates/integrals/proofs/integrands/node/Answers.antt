use mathlib.Core.Path.{◌≡◌}
use Rattle.checked.specs.ToldLaws.{none_met, value_is, met_is, follows, stops, rules as told_rules}
use Rattle.integrals.specs.Integrands.{radial_normal_c, weight_c, node_c}
use Rattle.integrals.specs.IntegrandsLaws.{node_refusal, node_value}
use Rattle.integrals.proofs.integrands.node.Goals as goal

pub returns-in_err-b : goal.returns-in_err-b
returns-in_err-b c = stops _ _ _ c.from_residual.ensures (simp (node_refusal, met_is _ _ c.in_err-b.ensures, told_rules))

pub returns : goal.returns
unfolding weight_c
returns c =
    let b = c.in_ok-b.ensures in
    let at : (radial_normal_c c.args.v c.args.p.theta).value ≡ c.in_ok-b.b = value_is _ _ b in
    let after : (node_c c.args.v c.args.p c.args.h c.args.wgt c.args.s).value ≡ c.terms-after.result =
    simp (node_value, c.terms-after.ensures, c.patch-3.ensures, c.patch-2.ensures, c.patch.ensures, ← at) in
    follows _ _ _ _ c.finite.ensures (simp (node_refusal, none_met _ _ b, after, told_rules)) after
