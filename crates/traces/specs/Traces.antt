-- `Trace::v`: v at u of a curve of a development that is v of u; none for a meet with `turn`, and in no other case.
use Rattle.std.specs.Prelude.{Bool, ◌&&◌, Float, Option, Some, None}
use Rattle.checked.specs.Refusals.{OUT_OF_RANGE}
use Rattle.checked.specs.Checked.{Checked, ◌>>=◌, given, num, ◌⊘◌, within, Due, answered}
use Rattle.checked.specs.Tests.{fails, ◌or◌, passing, neutral_test}
use Rattle.waves.specs.Values as wave_values
use Rattle.waves.specs.Entries.{wave_within}
use Rattle.meets.specs.declared.Angles.{Angles}
use Rattle.meets.specs.declared.Meet.{Meet}
use Rattle.meets.specs.Meets as meets
use Rattle.meets.specs.Entries.{meet_within}
use Rattle.traces.specs.declared.Trace.{Trace}
use Rattle.traces.specs.declared.Trace.TheVariants as trace

-- z of `point(u / n, n)`
unfoldable pub meet_height_c : Meet → Float → Float → Checked Float
meet_height_c m u n = do
  phi ← num u ⊘ num n
  meets.height_c m phi n

abbrev pub meet_by : Option Angles → Meet → Float → Float → Checked (Option Float)
meet_by None m u n = do
  z ← meet_height_c m u n
  given (Some z)
meet_by (Some a) m u n = given None

unfoldable pub meet_c : Meet → Float → Float → Checked (Option Float)
meet_c m u n = meet_by m.turn m u n

unfoldable pub v_c : Trace → Float → Float → Checked (Option Float)
v_c (trace.Wave w) u n = do
  v ← wave_values.v_c w.a w.b w.c u n
  given (Some v)
v_c (trace.Meet m) u n = meet_c m u n

-- all numbers of a trace pass the test of what is handed in
unfoldable pub trace_within : Trace → Bool
trace_within (trace.Wave w) = wave_within w
trace_within (trace.Meet m) = meet_within m

-- `Trace::v`
unfoldable pub v_due : Trace → Float → Float → Due (Option Float)
v_due t u n = passing (fails OUT_OF_RANGE (trace_within t && (within u && within n)) or neutral_test n) (answered (v_c t u n))
