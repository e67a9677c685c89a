-- Arccosine and hypotenuse, over computations, as the operators of `checked` are.
use Rattle.std.specs.Prelude.{Float}
use Rattle.checked.specs.Checked.{Checked, ◌>>=◌, finite}
use Rattle.libm.specs.Roots.{acos, hypot}

-- the angle whose cosine is given: 9 where there is none
abbrev pub acos_c : Checked Float → Checked Float
acos_c m = do
  x ← m
  finite (acos x)

-- the hypotenuse of two sides
abbrev pub hypot_c : Checked Float → Checked Float → Checked Float
hypot_c m n = do
  x ← m
  y ← n
  finite (hypot x y)
