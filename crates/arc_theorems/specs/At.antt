-- A point of an arc is refused only where nothing is left of its start across the axis: for every
-- arc, start and angle whose numbers pass the test of what is handed in. Assumes nothing.
-- Proved in proofs/At.antt.
use Rattle.std.specs.Prelude.{Float}
use Rattle.vectors.specs.declared.Vec3.{Vec3}
use Rattle.vectors.specs.Vectors.{minus_c}
use Rattle.directions.specs.Directions.{length_c, across_c}

-- what is left of the way from the centre to `from` across the axis, and its length
abbrev pub off : Vec3 → Vec3 → Vec3 → Vec3
off center axis from = (across_c axis (minus_c from center).value).value

abbrev pub off_length : Vec3 → Vec3 → Vec3 → Float
off_length center axis from = (length_c (off center axis from)).value
