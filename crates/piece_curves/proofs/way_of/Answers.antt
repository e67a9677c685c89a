use Rattle.std.specs.Prelude.{◌≡◌, Some}
use Rattle.std.proofs.Common.{rules}
use Rattle.checked.specs.ToldLaws.{stops, gives, none_met, value_is, met_is, rules as told_rules}
use Rattle.traces.specs.declared.Trace.TheVariants as trace
use Rattle.piece_curves.specs.PieceCurves.{kind_c}
use Rattle.piece_curves.proofs.way_of.Goals as goal

pub returns-in-Some-Wave-default : goal.returns-in-Some-Wave-default
unfolding kind_c
returns-in-Some-Wave-default c =
    let e : c.args.trace ≡ Some (trace.Wave c.in-Some-Wave-default.w) = search rules in
    simp (e, c.in-Some-Wave-default.w-is, told_rules)

pub returns-in_err-meet_curve-in-Some-Meet-default : goal.returns-in_err-meet_curve-in-Some-Meet-default
unfolding kind_c
returns-in_err-meet_curve-in-Some-Meet-default c =
    let e : c.args.trace ≡ Some (trace.Meet c.in-Some-Meet-default.m) = search rules in
    let m = simp c.in-Some-Meet-default.m-is at c.in_err-meet_curve-in-Some-Meet-default.ensures in
    simp e (stops _ _ _ c.from_residual.ensures (simp (met_is _ _ m, told_rules)))

pub returns-in_ok-meet_curve-in-Some-Meet-default : goal.returns-in_ok-meet_curve-in-Some-Meet-default
unfolding kind_c
returns-in_ok-meet_curve-in-Some-Meet-default c =
    let e : c.args.trace ≡ Some (trace.Meet c.in-Some-Meet-default.m) = search rules in
    let m = simp c.in-Some-Meet-default.m-is at c.in_ok-meet_curve-in-Some-Meet-default.ensures in
    simp e (gives _ _ (simp (none_met _ _ m, told_rules)) (simp (value_is _ _ m)))

pub returns-in-None-Some : goal.returns-in-None-Some
unfolding kind_c
returns-in-None-Some c = simp (c.in-None-Some.is-0, c.in-None-Some.is-1, told_rules)

pub returns-in-None-None : goal.returns-in-None-None
unfolding kind_c
returns-in-None-None c = simp (c.in-None-None.is-0, c.in-None-None.is-1, told_rules)
