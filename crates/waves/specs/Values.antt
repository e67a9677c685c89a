-- `Wave::at`: v at u, and its derivatives in u. What a call reads is what it binds.
-- A plane meets the neutral layer of a rolled sheet in an ellipse, and an ellipse rolled out is v = a + b·cos(u/n) +
-- c·sin(u/n), exactly.
use Rattle.std.specs.Prelude.{Float}
use Rattle.checked.specs.Checked.{Checked, ◌>>=◌, given, num, minus, ◌⊕◌, ◌⊖◌, ◌⊗◌, ◌⊘◌}
use Rattle.libm.specs.declared.sincos.Sines.{Sines}
use Rattle.libm.specs.Sincos.{sincos_c}
use Rattle.waves.specs.declared.values.Jet.{Jet}
use Rattle.waves.specs.declared.values.WaveSlope.{WaveSlope}

-- sine and cosine of u / n
abbrev pub sines_c : Float → Float → Checked Sines
sines_c u n = do
  q ← num u ⊘ num n
  sincos_c q

-- a + b·cos + c·sin
abbrev pub height_c : Float → Float → Float → Sines → Checked Float
height_c a b c t = num a ⊕ num b ⊗ num t.cos ⊕ num c ⊗ num t.sin

-- (c·cos − b·sin) / n
abbrev pub first_c : Float → Float → Sines → Float → Checked Float
first_c b c t n = (num c ⊗ num t.cos ⊖ num b ⊗ num t.sin) ⊘ num n

-- −(b·cos + c·sin) / (n·n)
abbrev pub second_c : Float → Float → Sines → Float → Checked Float
second_c b c t n = minus (num b ⊗ num t.cos ⊕ num c ⊗ num t.sin) ⊘ (num n ⊗ num n)

-- ---- what is read: v alone,
unfoldable pub v_c : Float → Float → Float → Float → Float → Checked Float
v_c a b c u n = do
  t ← sines_c u n
  height_c a b c t

-- the first derivative alone,
unfoldable pub slope_c : Float → Float → Float → Float → Checked Float
slope_c b c u n = do
  t ← sines_c u n
  first_c b c t n

-- the second alone,
unfoldable pub bend_c : Float → Float → Float → Float → Checked Float
bend_c b c u n = do
  t ← sines_c u n
  second_c b c t n

-- v and the first,
unfoldable pub with_slope_c : Float → Float → Float → Float → Float → Checked WaveSlope
with_slope_c a b c u n = do
  t ← sines_c u n
  v ← height_c a b c t
  d ← first_c b c t n
  given (record { v = v; slope = d })

-- all three
unfoldable pub derivatives_c : Float → Float → Float → Float → Float → Checked Jet
derivatives_c a b c u n = do
  t ← sines_c u n
  v ← height_c a b c t
  d ← first_c b c t n
  e ← second_c b c t n
  given (record { v = v; slope = d; bend = e })
