use Rattle.std.specs.Prelude.{Float}
use Rattle.checked.specs.Checked.{Checked}
use Rattle.order.specs.Least.{greatest}
use Rattle.waves.specs.declared.Wave.{Wave}
use Rattle.waves.specs.declared.turning_points.Turning.{Turning}
use Rattle.waves.specs.TurningPoints.{turning_c, range_c}
use Rattle.checked.specs.ToldLaws.{stops, follows, none_met, value_is, met_is, rules as told_rules}
use Rattle.waves.proofs.turning_points.range.Goals as goal

-- the definition has the wave by its numbers
abbrev turns_of : Wave → Float → Float → Float → Checked Turning
turns_of w u0 u1 n = turning_c (record { a = w.a; b = w.b; c = w.c }) n (greatest u0 u1)

pub returns-in_err-x : goal.returns-in_err-x
returns-in_err-x c =
    let x = simp c.least-lo.ensures at c.in_err-x.ensures in
    stops _ _ _ c.from_residual.ensures (unfold range_c in simp (met_is _ _ x, told_rules))

pub returns-in_err-y : goal.returns-in_err-y
returns-in_err-y c =
    let x = simp c.least-lo.ensures at c.in_ok-x.ensures in
    let y = simp c.greatest-hi.ensures at c.in_err-y.ensures in
    stops _ _ _ c.from_residual-in_err-y.ensures (unfold range_c in simp (none_met _ _ x, met_is _ _ y, told_rules))

pub returns-in_err-t : goal.returns-in_err-t
returns-in_err-t c =
    let x = simp c.least-lo.ensures at c.in_ok-x.ensures in
    let y = simp c.greatest-hi.ensures at c.in_ok-y.ensures in
    let t = simp c.greatest-hi.ensures at c.in_err-t.ensures in
    stops _ _ _ c.from_residual-in_err-t.ensures (unfold range_c in simp (none_met _ _ x, none_met _ _ y, met_is (turns_of c.args.w c.args.u0 c.args.u1 c.args.n) _ t, told_rules))

pub returns-in_err-k : goal.returns-in_err-k
returns-in_err-k c =
    let x = simp c.least-lo.ensures at c.in_ok-x.ensures in
    let y = simp c.greatest-hi.ensures at c.in_ok-y.ensures in
    let t = simp c.greatest-hi.ensures at c.in_ok-t.ensures in
    let k = simp c.least-lo.ensures at c.in_err-k.ensures in
    stops _ _ _ c.from_residual-in_err-k.ensures (unfold range_c in simp (none_met _ _ x, none_met _ _ y, none_met (turns_of c.args.w c.args.u0 c.args.u1 c.args.n) _ t, value_is (turns_of c.args.w c.args.u0 c.args.u1 c.args.n) _ t, met_is _ _ k, told_rules))

pub returns : goal.returns
returns c =
    let x = simp c.least-lo.ensures at c.in_ok-x.ensures in
    let y = simp c.greatest-hi.ensures at c.in_ok-y.ensures in
    let t = simp c.greatest-hi.ensures at c.in_ok-t.ensures in
    let k = simp c.least-lo.ensures at c.in_ok-k.ensures in
    let o = simp (c.greatest.ensures, c.least.ensures) at c.turns.ensures in
    follows _ _ _ _ o
    (unfold range_c in simp (none_met _ _ x, value_is _ _ x, none_met _ _ y, value_is _ _ y, none_met (turns_of c.args.w c.args.u0 c.args.u1 c.args.n) _ t, value_is (turns_of c.args.w c.args.u0 c.args.u1 c.args.n) _ t, none_met _ _ k, value_is _ _ k, told_rules))
    (unfold range_c in simp (value_is _ _ x, value_is _ _ y, value_is (turns_of c.args.w c.args.u0 c.args.u1 c.args.n) _ t, value_is _ _ k))
