-- A piece that was put to an array is read back from it by its tags, whatever the array held.
use Rattle.traces.specs.declared.Trace.{Trace}
use Rattle.profile_arcs.specs.declared.ProfileArc.{ProfileArc}
use Rattle.std.specs.Prelude.{◌≡◌, Bool, List, ◌∷◌, Float, Some, None, Option}
use Rattle.std.proofs.Math.Path.{refl}
use Rattle.std.proofs.Math.Bool.{true, false}
use Rattle.vectors.specs.declared.Vec2.{Vec2}
use Rattle.vectors.specs.declared.Vec3.{Vec3}
use Rattle.developments.specs.declared.Development.{Development}
use Rattle.meets.specs.declared.Angles.{Angles}
use Rattle.traces.specs.declared.Trace.TheVariants as trace
use Rattle.pieces.specs.declared.Rolled.{Rolled}
use Rattle.c_arrays.specs.Records.{over}
use Rattle.piece_arrays.specs.Arrays.{piece, arc_tag, turn_tag, trace_tag, of_centre, of_turn, of_meet, of_trace, with_piece}

module _ (a0 a1 a2 a3 a4 a5 a6 a7 a8 a9 a10 a11 a12 a13 a14 a15 a16 a17 a18 a19 a20 a21 a22 a23 a24 a25 : Float) (rest : List Float) where
  abbrev held : List Float
  held = a0 ∷ a1 ∷ a2 ∷ a3 ∷ a4 ∷ a5 ∷ a6 ∷ a7 ∷ a8 ∷ a9 ∷ a10 ∷ a11 ∷ a12 ∷ a13 ∷ a14 ∷ a15 ∷ a16 ∷ a17 ∷ a18 ∷ a19 ∷ a20 ∷ a21 ∷ a22 ∷ a23 ∷ a24 ∷ a25 ∷ rest

  abbrev Back : Rolled → Type 0
  Back p = piece (with_piece held p) (arc_tag p.arc) (trace_tag p.trace) ≡ p

  module _ (dev : Development) (from to : Vec2) where
    abbrev rolled : Option ProfileArc → Option Trace → Rolled
    rolled a t = record { dev = dev; from = from; to = to; arc = a; trace = t }

    abbrev bow : Vec2 → Bool → Option ProfileArc
    bow c ccw = Some (record { center = c; ccw = ccw })

    abbrev hole : Vec3 → Vec3 → Float → Float → Option Angles → Option Trace
    hole o x r own k = Some (trace.Meet (record { origin = o; axis = x; radius = r; own = own; turn = k }))

    bare_hole : (o x : Vec3) (r own : Float) (k : Option Angles) → Back (rolled None (hole o x r own k))
    unfolding with_piece over arc_tag trace_tag turn_tag of_centre of_trace of_meet of_turn
    bare_hole o x r own None = refl
    bare_hole o x r own (Some a) = refl

    bare : (t : Option Trace) → Back (rolled None t)
    unfolding with_piece over arc_tag trace_tag of_centre of_trace
    bare None = refl
    bare (Some (trace.Wave w)) = refl
    bare (Some (trace.Meet m)) = bare_hole m.origin m.axis m.radius m.own m.turn

    bowed_hole : (c : Vec2) (ccw : Bool) (o x : Vec3) (r own : Float) (k : Option Angles) → Back (rolled (bow c ccw) (hole o x r own k))
    unfolding with_piece over arc_tag trace_tag turn_tag of_centre of_trace of_meet of_turn
    bowed_hole c true o x r own None = refl
    bowed_hole c true o x r own (Some a) = refl
    bowed_hole c false o x r own None = refl
    bowed_hole c false o x r own (Some a) = refl

    bowed : (c : Vec2) (ccw : Bool) (t : Option Trace) → Back (rolled (bow c ccw) t)
    unfolding with_piece over arc_tag trace_tag of_centre of_trace
    bowed c true None = refl
    bowed c true (Some (trace.Wave w)) = refl
    bowed c false None = refl
    bowed c false (Some (trace.Wave w)) = refl
    bowed c ccw (Some (trace.Meet m)) = bowed_hole c ccw m.origin m.axis m.radius m.own m.turn

    each : (a : Option ProfileArc) (t : Option Trace) → Back (rolled a t)
    each None t = bare t
    each (Some a) t = bowed a.center a.ccw t

  pub read_back : (p : Rolled) → Back p
  read_back p = each p.dev p.from p.to p.arc p.trace
