-- The root of a number of the format that is not below zero is finite, and where it is above zero
-- it is 2 ^ -537 at least. Assumes nothing.
-- Proved in proofs/SquareRoots.antt.
use Rattle.std.specs.Prelude.{negsuc, Float}
use Rattle.std.proofs.Math.Bool.{false}
use Rattle.std.specs.Float.{fin}

-- 2 ^ -537
abbrev pub least_root : Float
least_root = fin false 1 (negsuc 536)
