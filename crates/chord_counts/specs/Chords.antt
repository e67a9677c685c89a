-- How many chords a circle is drawn with.
use Rattle.std.specs.Prelude.{cond, ◌&&◌, from_bits, Float}
use Rattle.std.specs.Float.{binary64}
use Rattle.std.specs.Float.Ieee.{div, lt}
use Rattle.checked.specs.Refusals.{OUT_OF_RANGE}
use Rattle.checked.specs.Checked.{Checked, ◌>>=◌, given, num, within, ◌⊖◌, ◌⊘◌, Due, answered}
use Rattle.checked.specs.Tests.{fails, ◌or◌, passing, chord_test}
use Rattle.checked.specs.Numbers.{zero, one, pi}
use Rattle.rounding.specs.Whole.{ceil}
use Rattle.libm.specs.Computations.{acos_c}

-- SEGMENTS: a full turn has at least 12 chords and at most 64
abbrev pub fewest : Float
fewest = from_bits binary64 0x4028_0000_0000_0000

abbrev pub most : Float
most = from_bits binary64 0x4050_0000_0000_0000

-- A chord over the angle a of a circle is radius·(1 − cos(a/2)) off it. So where the chord handed in is below the
-- radius, half the angle is the arc cosine of 1 − chord/radius, and a full turn takes π over that many chords. The
-- quotient is infinite for a chord of 0, and is not tried.
unfoldable pub quotient_c : Float → Float → Checked Float
quotient_c radius chord = do
  a ← acos_c (num one ⊖ num chord ⊘ num radius)
  given (div binary64 pi a)

-- as many as that, and none where the chord is not below the radius
unfoldable pub chords_c : Float → Float → Checked Float
chords_c radius chord = cond (lt chord radius) (quotient_c radius chord) (given zero)

-- `x.clamp(12.0, 64.0)`
unfoldable pub clamped : Float → Float
clamped x = cond (lt x fewest) fewest (cond (lt most x) most x)

-- the chords of a full turn: a whole number from 12 to 64 (`per_turn_range` of crates/arc_theorems), as
-- an f64
unfoldable pub per_turn_c : Float → Float → Checked Float
per_turn_c radius chord = do
  n ← chords_c radius chord
  given (clamped (ceil binary64 n))

-- `per_turn`, an entry: -0 is no chord below 0
unfoldable pub per_turn_due : Float → Float → Due Float
per_turn_due radius chord =
    passing (fails OUT_OF_RANGE (within radius && within chord) or chord_test chord)
    (answered (per_turn_c radius chord))
