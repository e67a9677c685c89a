-- What the entries on arcs are due to answer: the numbers handed in are tried, then the formula is
-- worked out.
use Rattle.std.specs.Prelude.{ℕ, List, Float}
use Rattle.checked.specs.Refusals.{OUT_OF_RANGE}
use Rattle.checked.specs.Checked.{Checked, Due, answered}
use Rattle.checked.specs.Answers.{and_then}
use Rattle.checked.specs.Tests.{fails, ◌or◌, passing, chord_test}
use Rattle.vectors.specs.declared.Vec3.{Vec3}
use Rattle.boxes.specs.declared.Bounds.{Bounds}
use Rattle.boxes.specs.Boxes.{box_call}
use Rattle.arcs.specs.Sweep.{circle_within, ends_within, sweep_c}
use Rattle.arcs.specs.Points.{angle_within, at_c}
use Rattle.arcs.specs.Extremes.{points_c}
use Rattle.arcs.specs.Chords.{chord_within, cut_c, inners_due}
use Rattle.arcs.specs.declared.Arc.{Arc}
use Rattle.arcs.specs.Arcs.{reversed_c}

-- `Arc::reversed`
unfoldable pub reversed_due : Arc → Due Arc
reversed_due arc = passing (fails OUT_OF_RANGE (circle_within arc.center arc.axis arc.radius)) (answered (reversed_c arc))

-- `Arc::sweep`
unfoldable pub sweep_due : Arc → Vec3 → Vec3 → Due Float
sweep_due arc from to =
    passing (fails OUT_OF_RANGE (ends_within arc.center arc.axis arc.radius from to))
    (answered (sweep_c arc.center arc.axis from to))

-- `Arc::at`
unfoldable pub at_due : Arc → Vec3 → Float → Due Vec3
at_due arc from t =
    passing (fails OUT_OF_RANGE (angle_within arc.center arc.axis arc.radius from t))
    (answered (at_c arc.center arc.axis arc.radius from t))

-- ---- `Arc::extend_bounds`
-- the test of what is handed in with the arc
abbrev pub handed : Arc → Vec3 → Vec3 → ℕ
handed arc from to = fails OUT_OF_RANGE (ends_within arc.center arc.axis arc.radius from to)

-- the points that widen the box
abbrev pub points : Arc → Vec3 → Vec3 → Checked (List Vec3)
points arc from to = points_c arc.center arc.axis arc.radius from to

unfoldable pub extend_due : Arc → Vec3 → Vec3 → Bounds → Due Bounds
extend_due arc from to b = box_call (handed arc from to) (points arc from to) b

-- `Arc::inner_points`, in a row of `room` numbers: the count comes before the row's length
unfoldable pub inner_points_due : Arc → Vec3 → Vec3 → Float → ℕ → Due (List Vec3)
inner_points_due arc from to chord room =
    passing (fails OUT_OF_RANGE (chord_within arc.center arc.axis arc.radius from to chord) or chord_test chord)
    (and_then (answered (cut_c arc.center arc.axis arc.radius from to chord)) (λ cut. inners_due arc.center arc.axis arc.radius from cut room))
