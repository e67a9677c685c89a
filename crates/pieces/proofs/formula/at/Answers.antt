use Rattle.std.specs.Prelude.{◌≡◌, Some}
use Rattle.std.proofs.Common.{rules}
use Rattle.checked.specs.ToldLaws.{stops, none_met, value_is, met_is, rules as told_rules}
use Rattle.traces.specs.declared.Trace.TheVariants as trace
use Rattle.piece_curves.specs.PieceCurves.{kind_c, curve_c}
use Rattle.piece_curves.specs.Points.{at_c}
use Rattle.pieces.specs.Pieces.{run_c}
use Rattle.pieces.proofs.formula.at.Goals as goal

pub returns-in-Some-Wave-default : goal.returns-in-Some-Wave-default
unfolding run_c curve_c kind_c at_c
returns-in-Some-Wave-default c =
    let e : c.args.p.trace ≡ Some (trace.Wave c.in-Some-Wave-default.w) = search rules in
    simp (c.wave_at.ensures, c.ends.ensures, e, c.in-Some-Wave-default.w-is, told_rules)

pub returns-in_err-meet_curve-in-Some-Meet-default : goal.returns-in_err-meet_curve-in-Some-Meet-default
unfolding run_c curve_c kind_c at_c
returns-in_err-meet_curve-in-Some-Meet-default c =
    let e : c.args.p.trace ≡ Some (trace.Meet c.in-Some-Meet-default.m) = search rules in
    let m = simp (c.ends-in-Some-Meet-default.ensures, c.in-Some-Meet-default.m-is) at c.in_err-meet_curve-in-Some-Meet-default.ensures in
    stops _ _ _ c.from_residual.ensures (simp (e, met_is _ _ m, told_rules))

pub returns-in_ok-meet_curve-in-Some-Meet-default : goal.returns-in_ok-meet_curve-in-Some-Meet-default
unfolding run_c curve_c kind_c at_c
returns-in_ok-meet_curve-in-Some-Meet-default c =
    let e : c.args.p.trace ≡ Some (trace.Meet c.in-Some-Meet-default.m) = search rules in
    let m = simp (c.ends-in-Some-Meet-default.ensures, c.in-Some-Meet-default.m-is) at c.in_ok-meet_curve-in-Some-Meet-default.ensures in
    simp (c.at.ensures, e, none_met _ _ m, value_is _ _ m, told_rules)

pub returns-in-None-Some : goal.returns-in-None-Some
unfolding run_c curve_c kind_c at_c
returns-in-None-Some c = simp (c.arc_at.ensures, c.ends-in-None-Some.ensures, c.in-None-Some.is-0, c.in-None-Some.is-1, told_rules)

pub returns-in-None-None : goal.returns-in-None-None
unfolding run_c curve_c kind_c at_c
returns-in-None-None c = simp (c.straight_at.ensures, c.ends-in-None-None.ensures, c.in-None-None.is-0, c.in-None-None.is-1, told_rules)
