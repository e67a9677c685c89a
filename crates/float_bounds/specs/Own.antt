-- A value of the format is what its own fraction rounds to: a product with 1 is the number, and one
-- with a number of magnitude at most 1 is no larger. A number less itself is +0, so a difference
-- has the sign of the comparison. Assumes nothing.
-- Proved in proofs/Own.antt.
use Rattle.std.specs.Prelude.{false, pos, Float}
use Rattle.std.specs.Float.{fin}

abbrev pub unit : Float
unit = fin false 1 (pos 0)
