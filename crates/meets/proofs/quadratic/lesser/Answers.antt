use mathlib.Core.Path.{◌∙◌}
use Rattle.checked.specs.ToldLaws.{stops, follows, none_met, value_is, met_is, rules as told_rules}
use Rattle.meets.specs.QuadraticLaws.{near_refusal, far_refusal, near_value, far_value}
use Rattle.meets.proofs.quadratic.lesser.Goals as goal

pub returns-in_err-d : goal.returns-in_err-d
returns-in_err-d c = stops _ _ _ c.from_residual.ensures (near_refusal c.args.q c.if-q.true ∙ simp (met_is _ _ c.in_err-d.ensures, told_rules))

pub returns-in_ok-d : goal.returns-in_ok-d
returns-in_ok-d c =
    let d = c.in_ok-d.ensures in
    let t = simp (← value_is _ _ d) at c.finite-then-q.ensures in
    follows _ _ _ _ t (near_refusal c.args.q c.if-q.true ∙ simp (none_met _ _ d, told_rules)) (near_value c.args.q c.if-q.true)

pub returns-else-q : goal.returns-else-q
returns-else-q c = follows _ _ _ _ c.finite-else-q.ensures (far_refusal c.args.q c.if-q.false) (far_value c.args.q c.if-q.false)
