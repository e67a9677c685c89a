use Rattle.checked.specs.ToldLaws.{stops, follows, none_met, value_is, met_is, rules as told_rules}
use Rattle.piece_lengths.specs.SecondDerivatives.{angle_bend_c}
use Rattle.piece_lengths.specs.SecondDerivativesLaws.{angle_bend_refusal}
use Rattle.piece_lengths.proofs.second_derivatives.angle_bend.Goals as goal

pub returns-in_err-r4 : goal.returns-in_err-r4
returns-in_err-r4 c = stops _ _ _ c.from_residual.ensures (simp (angle_bend_refusal, met_is _ _ c.in_err-r4.ensures, told_rules))

pub returns : goal.returns
returns c =
    let r = c.in_ok-r4.ensures in
    follows _ _ _ _ c.finite-2.ensures (simp (angle_bend_refusal, none_met _ _ r, told_rules) (unfold angle_bend_c in simp (value_is _ _ r))) (unfold angle_bend_c in simp (value_is _ _ r))
