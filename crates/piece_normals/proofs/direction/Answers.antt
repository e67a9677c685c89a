use Rattle.std.specs.Prelude.{◌≡◌, Some, None}
use Rattle.std.proofs.Common.{rules}
use Rattle.traces.specs.declared.Trace.TheVariants as trace
use Rattle.piece_normals.specs.Normals.{direction_c}
use Rattle.piece_normals.proofs.direction.Goals as goal

pub returns-in-Some-default : goal.returns-in-Some-default
unfolding direction_c
returns-in-Some-default c = simp (c.arc_direction.ensures, c.in-Some-default.is-0)

pub returns-in-None-Some-Wave : goal.returns-in-None-Some-Wave
unfolding direction_c
returns-in-None-Some-Wave c =
    let none : c.args.arc ≡ None = search rules in
    let e : c.args.trace ≡ Some (trace.Wave c.in-None-Some-Wave.w) = search rules in
    simp (c.wave_direction.ensures, none, e, c.in-None-Some-Wave.w-is)

pub returns-in-None-Some-Meet : goal.returns-in-None-Some-Meet
unfolding direction_c
returns-in-None-Some-Meet c =
    let none : c.args.arc ≡ None = search rules in
    let e : c.args.trace ≡ Some (trace.Meet c.in-None-Some-Meet.m) = search rules in
    simp (c.meet_direction.ensures, none, e, c.in-None-Some-Meet.m-is)

pub returns-in-None-None : goal.returns-in-None-None
unfolding direction_c
returns-in-None-None c = simp (c.straight.ensures, c.in-None-None.is-0, c.in-None-None.is-1)
