-- What the entries on waves are due to answer.
use Rattle.std.specs.Prelude.{Bool, ◌&&◌, Float}
use Rattle.checked.specs.Refusals.{OUT_OF_RANGE}
use Rattle.checked.specs.Checked.{within, Due, answered}
use Rattle.checked.specs.Tests.{fails, ◌or◌, passing, neutral_test}
use Rattle.waves.specs.declared.values.Jet.{Jet}
use Rattle.waves.specs.Values.{derivatives_c}
use Rattle.waves.specs.declared.turning_points.Span.{Span}
use Rattle.waves.specs.TurningPoints.{range_c}
use Rattle.waves.specs.declared.Wave.{Wave}

-- all numbers of a wave pass the test of what is handed in
unfoldable pub wave_within : Wave → Bool
wave_within w = within w.a && (within w.b && within w.c)

-- `Wave::at`
unfoldable pub at_due : Wave → Float → Float → Due Jet
at_due w u n = passing (fails OUT_OF_RANGE (wave_within w && (within u && within n)) or neutral_test n) (answered (derivatives_c w.a w.b w.c u n))

-- `Wave::range`
unfoldable pub range_due : Wave → Float → Float → Float → Due Span
range_due w u0 u1 n = passing (fails OUT_OF_RANGE (wave_within w && (within u0 && (within u1 && within n))) or neutral_test n) (answered (range_c w.a w.b w.c u0 u1 n))
