-- The refusals by number, named as for C; `Refusal` of the code has the same words.
use Rattle.std.specs.Prelude.{ℕ}

-- ---- by the drawing
-- a number handed in is not finite, or above 1,048,576 in magnitude
abbrev pub OUT_OF_RANGE : ℕ
OUT_OF_RANGE = 1

-- a neutral radius is not greater than 0
abbrev pub NEUTRAL_NOT_POSITIVE : ℕ
NEUTRAL_NOT_POSITIVE = 2

-- a piece has both an arc and a trace
abbrev pub ARC_AND_TRACE : ℕ
ARC_AND_TRACE = 3

-- ---- by the calling program
-- a box holds a NaN, or sums hold a NaN or an infinity
abbrev pub BAD_BOX_OR_SUMS : ℕ
BAD_BOX_OR_SUMS = 4

-- a chord is below 0, or a deviation is not above 0
abbrev pub BAD_TOLERANCE : ℕ
BAD_TOLERANCE = 5

-- a row is shorter than three times the points due
abbrev pub ROW_TOO_SHORT : ℕ
ROW_TOO_SHORT = 6

-- a development's piece is among the paths of a cone whose slope is not 0
abbrev pub PIECE_ON_CONE : ℕ
PIECE_ON_CONE = 7

-- ---- by the arithmetic
-- a finite angle above 1,048,576 in magnitude is due for a sine or cosine
abbrev pub ANGLE_TOO_LARGE : ℕ
ANGLE_TOO_LARGE = 8

-- a number that the result depends on is not finite
abbrev pub NOT_FINITE : ℕ
NOT_FINITE = 9

-- a count, or a corner to print, is above its limit
abbrev pub COUNT_TOO_LARGE : ℕ
COUNT_TOO_LARGE = 10

-- ---- by the edge file
-- the bytes are not those of an edge file
abbrev pub MALFORMED_FILE : ℕ
MALFORMED_FILE = 11
