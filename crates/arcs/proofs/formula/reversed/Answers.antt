use Rattle.checked.specs.Laws.{rules as checked_rules}
use Rattle.checked.specs.ToldLaws.{none_met, value_is, met_is, gives, stops}
use Rattle.vectors.specs.Vectors.{nines, neg_c}
use Rattle.vectors.specs.Laws.{rules as vectors_rules}
use Rattle.arcs.specs.Arcs.{reversed_c}
use Rattle.arcs.proofs.formula.reversed.Goals as goal

pub returns-in_err-axis : goal.returns-in_err-axis
unfolding reversed_c
returns-in_err-axis c =
    let axis = simp c.neg.ensures at c.in_err-axis.ensures in
    stops _ _ _ c.from_residual.ensures (simp (checked_rules, vectors_rules) (met_is (record { refusal = nines (neg_c c.args.arc.axis).value; value = (neg_c c.args.arc.axis).value }) _ axis))

pub returns : goal.returns
unfolding reversed_c
returns c =
    let axis = simp c.neg.ensures at c.in_ok-axis.ensures in
    gives _ _ (simp (checked_rules, vectors_rules) (none_met (record { refusal = nines (neg_c c.args.arc.axis).value; value = (neg_c c.args.arc.axis).value }) _ axis)) (simp (value_is _ _ axis))
