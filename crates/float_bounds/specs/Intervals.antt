-- What an operation makes of bounds of its operands. A bound is a number of the format, and the
-- operation on the bounds bounds the result: with closed numbers for bounds it computes. Assumes
-- nothing.
-- Proved in proofs/Intervals.antt.
use Rattle.std.specs.Prelude.{Bool, T, ltb, Float}
use Rattle.std.proofs.Math.Bool.{true, false}
use Rattle.std.specs.Float.Ieee.{nan, le}
use Rattle.std.specs.Float.{inf, fin}
use Rattle.float_bits.specs.FloatBits.{fabs}
use Rattle.float_bounds.specs.Parts.{above}

-- from lo up to hi
abbrev pub In : Float → Float → Float → Type 0
In lo hi x = T (le lo x) × T (le x hi)

-- of magnitude at most a
abbrev pub Upto : Float → Float → Type 0
Upto a x = T (le (fabs x) a)

-- finite, and with no minus sign: what bounds a magnitude
abbrev pub plain : Float → Bool
plain nan = false
plain (inf s) = false
plain (fin true m e) = false
plain (fin false m e) = true

-- ---- quotients

-- above zero
abbrev pub positive : Float → Bool
positive x = ltb 0 (above x)
