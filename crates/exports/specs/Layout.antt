-- The layout of arrays and answers, by number.
use Rattle.std.specs.Prelude.{ℕ}

-- counted up, with the name of the function that gives it, where an array or an answer changes its layout
abbrev pub LAYOUT : ℕ
LAYOUT = 1
