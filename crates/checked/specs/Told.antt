-- What the code's answers tell, by number.
use Rattle.std.specs.Prelude.{ℕ, Result, Ok, Err}
use Rattle.checked.specs.Refusals.{OUT_OF_RANGE, NEUTRAL_NOT_POSITIVE, ARC_AND_TRACE, BAD_BOX_OR_SUMS, BAD_TOLERANCE, ROW_TOO_SHORT, PIECE_ON_CONE, ANGLE_TOO_LARGE, NOT_FINITE, COUNT_TOO_LARGE, MALFORMED_FILE}
use Rattle.checked.specs.Checked.{Due, due, refused}
use Rattle.checked.specs.Answers.{number_of}
use Rattle.checked.specs.declared.Refusal.{Refusal}
use Rattle.checked.specs.declared.Refusal.TheVariants as refusal

-- a refusal by its number
abbrev pub number : Refusal → ℕ
number refusal.OutOfRange = OUT_OF_RANGE
number refusal.NeutralNotPositive = NEUTRAL_NOT_POSITIVE
number refusal.ArcAndTrace = ARC_AND_TRACE
number refusal.BadBoxOrSums = BAD_BOX_OR_SUMS
number refusal.BadTolerance = BAD_TOLERANCE
number refusal.RowTooShort = ROW_TOO_SHORT
number refusal.PieceOnCone = PIECE_ON_CONE
number refusal.AngleTooLarge = ANGLE_TOO_LARGE
number refusal.NotFinite = NOT_FINITE
number refusal.CountTooLarge = COUNT_TOO_LARGE
number refusal.MalformedFile = MALFORMED_FILE

-- what an answer of the code tells
abbrev pub told : {A : Type 0} → Result A Refusal → Due A
told (Ok a) = due a
told (Err r) = refused (number r)

-- the number of the test that failed, by what the code answers to it; 0 is none
abbrev pub failed : Result Unit Refusal → ℕ
failed r = number_of (told r)
