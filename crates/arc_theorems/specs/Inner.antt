-- `Arc::inner_points`: an arc is cut into 64 chords at most, so 63 points are due at most and a row
-- of 189 numbers suffices; the count is never refused by 10, an angle never by 8, and 9 is met
-- exactly where `Arc::at` meets it. Assumes nothing.
-- Proved in proofs/Inner.antt.
use Rattle.std.specs.Prelude.{Bool, List, ℕ, suc, ◌-◌, Float}
use Rattle.std.proofs.Math.Bool.{true, false}
use Prim.Native.Nat as N
use Rattle.vectors.specs.declared.Vec3.{Vec3}
use Rattle.rows.specs.Rows.{up_to}
use Rattle.arcs.specs.Chords.{cut_c}
use Rattle.arcs.specs.ChordsLaws.{rimmed}
use Rattle.arcs.specs.declared.Arc.{Arc}

-- no point is due
abbrev pub is_none : ℕ → Bool
is_none N.zero = true
is_none (suc m) = false

-- how many points an arc is due, and those points
abbrev pub points_of : Arc → Vec3 → Vec3 → Float → ℕ
points_of arc from to chord = (cut_c arc.center arc.axis arc.radius from to chord).value.chords - 1

abbrev pub rim_points : Arc → Vec3 → Vec3 → Float → List Vec3
rim_points arc from to chord = (up_to (rimmed arc.center arc.axis arc.radius from (cut_c arc.center arc.axis arc.radius from to chord).value) (points_of arc from to chord)).value
