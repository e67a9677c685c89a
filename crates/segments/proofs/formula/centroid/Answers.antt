use mathlib.Core.Path.{◌∙◌}
use Rattle.std.specs.Prelude.{◌≡◌}
use Rattle.checked.specs.ToldLaws.{none_met, value_is, met_is, follows, stops, rules as told_rules}
use Rattle.segments.specs.Segments.{centroid_c}
use Rattle.segments.specs.Laws.{centroid_refusal}
use Rattle.segments.proofs.formula.centroid.Goals as goal

pub returns-in_err-t : goal.returns-in_err-t
returns-in_err-t c =
    let t = c.in_err-t.ensures in
    stops _ _ _ c.from_residual.ensures (centroid_refusal _ _ _ ∙ (unfold centroid_c in rw (met_is _ _ t) (simp told_rules)))

pub returns-in_err-p : goal.returns-in_err-p
returns-in_err-p c =
    let t = c.in_ok-t.ensures in
    let p = c.in_err-p.ensures in
    stops _ _ _ c.from_residual-in_err-p.ensures (centroid_refusal _ _ _ ∙ (unfold centroid_c in rw (none_met _ _ t, value_is _ _ t, met_is _ _ p) (simp told_rules)))

pub returns-in_err-mid : goal.returns-in_err-mid
returns-in_err-mid c =
    let t = c.in_ok-t.ensures in
    let p = c.in_ok-p.ensures in
    let mid = simp (c.minus.ensures) at c.in_err-mid.ensures in
    stops _ _ _ c.from_residual-in_err-mid.ensures (centroid_refusal _ _ _ ∙ (unfold centroid_c in rw (none_met _ _ t, value_is _ _ t, none_met _ _ p, value_is _ _ p, met_is _ _ mid) (simp told_rules)))

-- the sine tries its angle too, so what is known of it is used first
pub returns-in_err-h : goal.returns-in_err-h
returns-in_err-h c =
    let t = c.in_ok-t.ensures in
    let p = c.in_ok-p.ensures in
    let mid = simp (c.minus.ensures) at c.in_ok-mid.ensures in
    let h = c.in_err-h.ensures in
    stops _ _ _ c.from_residual-in_err-h.ensures (centroid_refusal _ _ _ ∙ (unfold centroid_c in rw (value_is _ _ t, met_is _ _ h, rw (value_is _ _ t) at (none_met _ _ t), none_met _ _ p, value_is _ _ p, none_met _ _ mid) (simp told_rules)))

pub returns-in_err-top : goal.returns-in_err-top
returns-in_err-top c =
    let t = c.in_ok-t.ensures in
    let p = c.in_ok-p.ensures in
    let mid = simp (c.minus.ensures) at c.in_ok-mid.ensures in
    let h = c.in_ok-h.ensures in
    let top = c.in_err-top.ensures in
    stops _ _ _ c.from_residual-in_err-top.ensures (centroid_refusal _ _ _ ∙ (unfold centroid_c in rw (value_is _ _ t, none_met _ _ h, rw (value_is _ _ t) at (none_met _ _ t), none_met _ _ p, value_is _ _ p, none_met _ _ mid, value_is _ _ h, met_is _ _ top) (simp told_rules)))

pub returns-in_err-under : goal.returns-in_err-under
returns-in_err-under c =
    let t = c.in_ok-t.ensures in
    let p = c.in_ok-p.ensures in
    let mid = simp (c.minus.ensures) at c.in_ok-mid.ensures in
    let h = c.in_ok-h.ensures in
    let top = c.in_ok-top.ensures in
    let under = c.in_err-under.ensures in
    stops _ _ _ c.from_residual-in_err-under.ensures (centroid_refusal _ _ _ ∙ (unfold centroid_c in rw (value_is _ _ t, none_met _ _ h, rw (value_is _ _ t) at (none_met _ _ t), none_met _ _ p, value_is _ _ p, none_met _ _ mid, value_is _ _ h, none_met _ _ top, met_is _ _ under) (simp told_rules)))

pub returns : goal.returns
returns c =
    let t = c.in_ok-t.ensures in
    let p = c.in_ok-p.ensures in
    let mid = simp (c.minus.ensures) at c.in_ok-mid.ensures in
    let h = c.in_ok-h.ensures in
    let top = c.in_ok-top.ensures in
    let under = c.in_ok-under.ensures in
    let all : (centroid_c c.args.turned c.args.u c.args.s).value ≡ c.plus.result =
    unfold centroid_c in rw (value_is _ _ t, value_is _ _ p, value_is _ _ mid, value_is _ _ h, value_is _ _ top, value_is _ _ under) (simp (c.plus.ensures, c.times.ensures)) in
    follows _ _ _ _ c.finite3-2.ensures
    (centroid_refusal _ _ _ ∙ rw (all, value_is _ _ t, none_met _ _ h, rw (value_is _ _ t) at (none_met _ _ t), none_met _ _ p, value_is _ _ p, none_met _ _ mid, value_is _ _ h, none_met _ _ top, none_met _ _ under) (simp told_rules))
    all
