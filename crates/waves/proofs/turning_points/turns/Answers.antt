use Rattle.std.specs.Prelude.{suc, ◌+◌, ◌-◌, ◌≡◌}
use mathlib.Core.Path.{sym, ap, ◌∙◌}
use native.Mathlib.Omega.{arith}
use Rattle.checked.specs.Refusals.{COUNT_TOO_LARGE}
use Rattle.checked.specs.Checked.{Checked}
use Rattle.checked.specs.ToldLaws.{settled_number, stops, none_met, value_is, met_is, rules as told_rules}
use Rattle.checked.specs.declared.Refusal.TheVariants as refusal
use Rattle.waves.specs.declared.turning_points.RangeSoFar.{RangeSoFar}
use Rattle.waves.specs.TurningPoints.{TURNING_POINTS, inside_c, taken_c}
use Rattle.waves.specs.TurningPointsLaws.{inside_value, inside_refusal, taken_refusal, taken_value, turns_refuses, turns_gives}
use Rattle.checked.specs.LoopsLaws.{goes_on, ends, is_over, step_refuses, test_refuses}
use Rattle.waves.proofs.turning_points.turns.Goals as goal

pub returns-in_err-p : goal.returns-in_err-p
returns-in_err-p c =
    let t = c.args.t in
    let s = c.loop.s in
    let met = inside_refusal t s ∙ met_is _ _ c.in_err-p.ensures in
    stops _ _ _ c.from_residual.ensures (turns_refuses t _ _ _ _ s c.loop.invariant _ (test_refuses COUNT_TOO_LARGE _ (inside_c t) (taken_c t) s _ met))

pub returns-then-not-p-t : goal.returns-then-not-p-t
returns-then-not-p-t c =
    let t = c.args.t in
    let s = c.loop.s in
    let none = inside_refusal t s ∙ none_met _ _ c.in_ok-p.ensures in
    let h = inside_value t s ∙ simp (value_is _ _ c.in_ok-p.ensures) c.if-not-p-t.true in
    turns_gives t _ _ _ _ s c.loop.invariant (ends COUNT_TOO_LARGE (inside_c t) (taken_c t) s none _ h)

pub returns-in_err-x : goal.returns-in_err-x
returns-in_err-x c =
    let t = c.args.t in
    let s = c.loop.s in
    let more : TURNING_POINTS - c.loop.counter ≡ suc (TURNING_POINTS - (c.loop.counter + 1)) = omega arith in
    let none = inside_refusal t s ∙ none_met _ _ c.in_ok-p.ensures in
    let h = inside_value t s ∙ simp (value_is _ _ c.in_ok-p.ensures) c.if-not-p-t.false in
    let x = simp (← value_is _ _ c.in_ok-p.ensures) at c.in_err-x.ensures in
    let met = taken_refusal t s ∙ simp (met_is _ _ x, told_rules) in
    stops _ _ _ c.from_residual-in_err-x.ensures (turns_refuses t _ _ _ _ s (rw more at c.loop.invariant) _ (step_refuses COUNT_TOO_LARGE (inside_c t) (taken_c t) s none _ _ h met))

pub returns-in_err-next : goal.returns-in_err-next
returns-in_err-next c =
    let t = c.args.t in
    let s = c.loop.s in
    let more : TURNING_POINTS - c.loop.counter ≡ suc (TURNING_POINTS - (c.loop.counter + 1)) = omega arith in
    let none = inside_refusal t s ∙ none_met _ _ c.in_ok-p.ensures in
    let h = inside_value t s ∙ simp (value_is _ _ c.in_ok-p.ensures) c.if-not-p-t.false in
    let x = simp (← value_is _ _ c.in_ok-p.ensures) at c.in_ok-x.ensures in
    let met = taken_refusal t s ∙ simp (none_met _ _ x, met_is _ _ c.in_err-next.ensures, told_rules) in
    stops _ _ _ c.from_residual-in_err-next.ensures (turns_refuses t _ _ _ _ s (rw more at c.loop.invariant) _ (step_refuses COUNT_TOO_LARGE (inside_c t) (taken_c t) s none _ _ h met))

pub loop-preserved : goal.loop-preserved
loop-preserved c =
    let t = c.args.t in
    let s = c.loop.s in
    let more : TURNING_POINTS - c.loop.counter ≡ suc (TURNING_POINTS - (c.loop.counter + 1)) = omega arith in
    let none = inside_refusal t s ∙ none_met _ _ c.in_ok-p.ensures in
    let h = inside_value t s ∙ simp (value_is _ _ c.in_ok-p.ensures) c.if-not-p-t.false in
    let x = simp (← value_is _ _ c.in_ok-p.ensures) at c.in_ok-x.ensures in
    let met = taken_refusal t s ∙ simp (none_met _ _ x, none_met _ _ c.in_ok-next.ensures, told_rules) in
    let next = sym (goes_on COUNT_TOO_LARGE (inside_c t) (taken_c t) s none (TURNING_POINTS - (c.loop.counter + 1)) h met) ∙ rw more at c.loop.invariant in
    simp (c.greatest.ensures, c.least.ensures, ← value_is _ _ c.in_ok-next.ensures, ← value_is _ _ x) (simp taken_value at next)

pub returns-in_err-p-2 : goal.returns-in_err-p-2
returns-in_err-p-2 c =
    let t = c.args.t in
    let s = c.loop.s in
    let met = inside_refusal t s ∙ met_is _ _ c.in_err-p-2.ensures in
    stops _ _ _ c.from_residual-in_err-p-2.ensures (turns_refuses t _ _ _ _ s c.loop.invariant _ (test_refuses COUNT_TOO_LARGE _ (inside_c t) (taken_c t) s _ met))

pub returns-then-p-t : goal.returns-then-p-t
returns-then-p-t c =
    let t = c.args.t in
    let s = c.loop.s in
    let done : TURNING_POINTS - c.loop.counter ≡ 0 = omega arith in
    let none = inside_refusal t s ∙ none_met _ _ c.in_ok-p-2.ensures in
    let h = inside_value t s ∙ simp (value_is _ _ c.in_ok-p-2.ensures) c.if-p-t.true in
    let over = is_over COUNT_TOO_LARGE (inside_c t) (taken_c t) s none h in
    sym (rw (turns_refuses t _ _ _ _ s (rw done at c.loop.invariant) _ (ap (λ (w : Checked RangeSoFar). w.refusal) over)) (settled_number refusal.CountTooLarge _))

pub returns-else-p-t : goal.returns-else-p-t
returns-else-p-t c =
    let t = c.args.t in
    let s = c.loop.s in
    let none = inside_refusal t s ∙ none_met _ _ c.in_ok-p-2.ensures in
    let h = inside_value t s ∙ simp (value_is _ _ c.in_ok-p-2.ensures) c.if-p-t.false in
    turns_gives t _ _ _ _ s c.loop.invariant (ends COUNT_TOO_LARGE (inside_c t) (taken_c t) s none _ h)
