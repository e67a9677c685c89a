-- Magnitudes at most 2 ^ k, for any k up to 1023: sums and differences add one to the exponent,
-- products add the exponents. Assumes nothing.
-- Proved in proofs/Powers.antt.
use Rattle.std.specs.Prelude.{false, ℕ, pos, Float}
use Rattle.std.specs.Float.{fin}

-- 2 ^ k
abbrev pub pow : ℕ → Float
pow k = fin false 1 (pos k)
