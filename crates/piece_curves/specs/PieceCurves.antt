-- What a piece of a development follows, ready to be followed.
use Rattle.profile_arcs.specs.declared.ProfileArc.{ProfileArc}
use Rattle.std.specs.Prelude.{Float, Some, None, Option}
use Rattle.checked.specs.Checked.{Checked, ◌>>=◌, given}
use Rattle.vectors.specs.declared.Vec2.{Vec2}
use Rattle.traces.specs.declared.Trace.{Trace}
use Rattle.traces.specs.declared.Trace.TheVariants as trace
use Rattle.piece_curves.specs.declared.CurveKind.{CurveKind}
use Rattle.piece_curves.specs.declared.CurveKind.TheVariants as way
use Rattle.piece_curves.specs.declared.PieceCurve.{PieceCurve}
use Rattle.piece_curves.specs.MeetCurves.{meet_curve_c}

-- the run of a piece, by the way that it follows
abbrev pub curve_by : Vec2 → Vec2 → Float → CurveKind → PieceCurve
curve_by from to n w = record { ends = record { from = from; to = to; neutral = n }; way = w }

-- along a trace where there is one, else along an arc, else straight on: a piece with both is refused where it is
-- handed in, so which of the two goes first makes no difference. Of a meet the Rust works out the pipe in each call of
-- `Meet::point`, always the same, and refused by the number 9 alone, before any sine is due; here it is worked out first.
unfoldable pub kind_c : Vec2 → Vec2 → Float → Option ProfileArc → Option Trace → Checked CurveKind
kind_c from to n arc (Some (trace.Wave w)) = given (way.Wave w)
kind_c from to n arc (Some (trace.Meet m)) = do
  c ← meet_curve_c from to n m
  given (way.Meet c)
kind_c from to n (Some a) None = given (way.Arc a)
kind_c from to n None None = given way.Straight

-- a piece ready to be followed
unfoldable pub curve_c : Vec2 → Vec2 → Float → Option ProfileArc → Option Trace → Checked PieceCurve
curve_c from to n arc trace' = do
  w ← kind_c from to n arc trace'
  given (curve_by from to n w)
