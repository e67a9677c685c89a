use Rattle.checked.specs.ToldLaws.{none_met, value_is, met_is, gives, stops, rules as told_rules}
use Rattle.arcs.specs.Chords.{cut_c}
use Rattle.arcs.specs.ChordsLaws.{cut_refusal}
use Rattle.arcs.proofs.chords.cut_up.Goals as goal

pub returns-in_err-turn : goal.returns-in_err-turn
returns-in_err-turn c = stops _ _ _ c.from_residual.ensures (simp (cut_refusal, met_is _ _ c.in_err-turn.ensures, told_rules))

pub returns-in_err-h : goal.returns-in_err-h
returns-in_err-h c =
    let turn = c.in_ok-turn.ensures in
    let h = simp (← value_is _ _ turn) at c.in_err-h.ensures in
    stops _ _ _ c.from_residual-in_err-h.ensures (simp (cut_refusal, none_met _ _ turn, met_is _ _ h, told_rules))

pub returns-in_err-p : goal.returns-in_err-p
returns-in_err-p c =
    let turn = c.in_ok-turn.ensures in
    let h = simp (← value_is _ _ turn) at c.in_ok-h.ensures in
    stops _ _ _ c.from_residual-in_err-p.ensures (simp (cut_refusal, none_met _ _ turn, none_met _ _ h, met_is _ _ c.in_err-p.ensures, told_rules))

pub returns-in_err-chords : goal.returns-in_err-chords
returns-in_err-chords c =
    let turn = c.in_ok-turn.ensures in
    let h = simp (← value_is _ _ turn) at c.in_ok-h.ensures in
    let p = c.in_ok-p.ensures in
    let n = simp (← value_is _ _ h, ← value_is _ _ p) at c.in_err-chords.ensures in
    stops _ _ _ c.from_residual-in_err-chords.ensures (simp (cut_refusal, none_met _ _ turn, none_met _ _ h, none_met _ _ p, met_is _ _ n, told_rules))

pub returns : goal.returns
returns c =
    let turn = c.in_ok-turn.ensures in
    let h = simp (← value_is _ _ turn) at c.in_ok-h.ensures in
    let p = c.in_ok-p.ensures in
    let n = simp (← value_is _ _ h, ← value_is _ _ p) at c.in_ok-chords.ensures in
    gives _ _
    (simp (cut_refusal, none_met _ _ turn, none_met _ _ h, none_met _ _ p, none_met _ _ n, told_rules))
    (unfold cut_c in simp (value_is _ _ turn, ← value_is _ _ n))
