-- Points of an arc for drawing, both ends excluded: into how many chords it is cut, and the points
-- between them.
use Rattle.std.specs.Prelude.{ℕ, ◌-◌, Bool, ◌&&◌, List, Float}
use Rattle.checked.specs.Checked.{Checked, ◌>>=◌, given, num, within, ◌⊗◌, ◌⊘◌, Due, answered}
use Rattle.checked.specs.Numbers.{one, tau, float}
use Rattle.vectors.specs.declared.Vec3.{Vec3}
use Rattle.chord_counts.specs.Chords.{per_turn_c}
use Rattle.chord_counts.specs.Counts.{MOST, count_c}
use Rattle.rows.specs.Rows.{up_to, fits}
use Rattle.arcs.specs.Sweep.{ends_within, sweep_c}
use Rattle.arcs.specs.Points.{at_c}
use Rattle.arcs.specs.declared.chords.Cut.{Cut}

-- every number of an arc, of its ends and of a chord passes the test of what is handed in
unfoldable pub chord_within : Vec3 → Vec3 → Float → Vec3 → Vec3 → Float → Bool
chord_within center axis radius from to chord = ends_within center axis radius from to && within chord

-- the arc's sweep, and into how many chords it is cut
unfoldable pub cut_c : Vec3 → Vec3 → Float → Vec3 → Vec3 → Float → Checked Cut
cut_c center axis radius from to chord = do
  turn ← sweep_c center axis from to
  q ← num turn ⊘ num tau ⊗ per_turn_c radius chord
  n ← count_c q one MOST
  given (record { turn = turn; chords = n })

-- the point k of an arc that is cut
unfoldable pub inner_c : Vec3 → Vec3 → Float → Vec3 → Cut → ℕ → Checked Vec3
inner_c center axis radius from cut k = do
  t ← num cut.turn ⊗ num (float k) ⊘ num (float cut.chords)
  at_c center axis radius from t

-- one point fewer than chords, in a row of `room` numbers
unfoldable pub inners_due : Vec3 → Vec3 → Float → Vec3 → Cut → ℕ → Due (List Vec3)
inners_due center axis radius from cut room = fits room (cut.chords - 1) (answered (up_to (inner_c center axis radius from cut) (cut.chords - 1)))
