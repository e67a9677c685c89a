-- What the entry on meets is due to answer.
use Rattle.std.specs.Prelude.{Bool, true, ◌&&◌, Float, Some, None, Option}
use Rattle.checked.specs.Refusals.{OUT_OF_RANGE}
use Rattle.checked.specs.Checked.{within, Due, answered}
use Rattle.checked.specs.Tests.{fails, ◌or◌, passing, neutral_test}
use Rattle.vectors.specs.Vectors.{within3}
use Rattle.meets.specs.declared.generatrix.Jet.{Jet}
use Rattle.meets.specs.declared.Angles.{Angles}
use Rattle.meets.specs.declared.Meet.{Meet}
use Rattle.meets.specs.Meets.{derivatives_c}

-- all numbers of a meet pass the test of what is handed in
unfoldable pub turn_within : Option Angles → Bool
turn_within None = true
turn_within (Some a) = within a.from && within a.to

unfoldable pub meet_within : Meet → Bool
meet_within m = within3 m.origin && (within3 m.axis && (within m.radius && (within m.own && turn_within m.turn)))

-- `Meet::point`
unfoldable pub point_due : Meet → Float → Float → Due Jet
point_due m phi n = passing (fails OUT_OF_RANGE (meet_within m && (within phi && within n)) or neutral_test n) (answered (derivatives_c m phi n))
