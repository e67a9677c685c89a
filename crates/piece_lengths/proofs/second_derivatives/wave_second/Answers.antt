use Rattle.checked.specs.ToldLaws.{stops, gives, none_met, value_is, met_is, rules as told_rules}
use Rattle.piece_lengths.specs.SecondDerivatives.{wave_c}
use Rattle.piece_lengths.specs.SecondDerivativesLaws.{wave_refusal}
use Rattle.piece_lengths.proofs.second_derivatives.wave_second.Goals as goal

pub returns-in_err-du : goal.returns-in_err-du
returns-in_err-du c = stops _ _ _ c.from_residual.ensures (simp (wave_refusal, met_is _ _ c.in_err-du.ensures, told_rules))

pub returns-in_err-u : goal.returns-in_err-u
returns-in_err-u c =
    let d = c.in_ok-du.ensures in
    let u = simp (← value_is _ _ d) at c.in_err-u.ensures in
    stops _ _ _ c.from_residual-in_err-u.ensures (simp (wave_refusal, none_met _ _ d, met_is _ _ u, told_rules))

pub returns-in_err-e : goal.returns-in_err-e
returns-in_err-e c =
    let d = c.in_ok-du.ensures in
    let u = simp (← value_is _ _ d) at c.in_ok-u.ensures in
    let e = simp (← value_is _ _ u) at c.in_err-e.ensures in
    stops _ _ _ c.from_residual-in_err-e.ensures (simp (wave_refusal, none_met _ _ d, none_met _ _ u, met_is _ _ e, told_rules))

pub returns-in_err-y : goal.returns-in_err-y
returns-in_err-y c =
    let d = c.in_ok-du.ensures in
    let u = simp (← value_is _ _ d) at c.in_ok-u.ensures in
    let e = simp (← value_is _ _ u) at c.in_ok-e.ensures in
    let y = simp (← value_is _ _ d, ← value_is _ _ e) at c.in_err-y.ensures in
    stops _ _ _ c.from_residual-in_err-y.ensures (simp (wave_refusal, none_met _ _ d, none_met _ _ u, none_met _ _ e, told_rules) (unfold wave_c in met_is _ _ y))

pub returns : goal.returns
returns c =
    let d = c.in_ok-du.ensures in
    let u = simp (← value_is _ _ d) at c.in_ok-u.ensures in
    let e = simp (← value_is _ _ u) at c.in_ok-e.ensures in
    let y = simp (← value_is _ _ d, ← value_is _ _ e) at c.in_ok-y.ensures in
    gives _ _ (simp (wave_refusal, none_met _ _ d, none_met _ _ u, none_met _ _ e, told_rules) (unfold wave_c in none_met _ _ y)) (unfold wave_c in simp (value_is _ _ y))
