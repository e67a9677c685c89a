-- The figures of the papers, each as a number, beside the names that definitions have for it: nothing rests on these
-- equations, and a figure that is changed in code and definitions alike fails here. The code's constants are equated
-- with the lists below by the functions of this crate.
use Rattle.std.specs.Prelude.{ℕ, ◌≡◌, refl, List, [], ◌∷◌, Float}
use Rattle.std.specs.Float.Ieee.{le, lt, eq, round, of_int, of_bits, to_unsigned}
use Rattle.checked.specs.Refusals.{OUT_OF_RANGE, NEUTRAL_NOT_POSITIVE, ARC_AND_TRACE, BAD_BOX_OR_SUMS, BAD_TOLERANCE, ROW_TOO_SHORT, PIECE_ON_CONE, ANGLE_TOO_LARGE, NOT_FINITE, COUNT_TOO_LARGE, MALFORMED_FILE}
use Rattle.checked.specs.Checked.{first, given, is_finite, nine, limit}
use Rattle.checked.specs.Numbers.{literal, float, one, pi, tau, quarter_pi}
use Rattle.rounding.specs.Whole.{ceil}
use Rattle.order.specs.Least.{negative, greatest}
use Rattle.libm.specs.Atan.{ATANHI1, ATANLO1, ATANHI3, ATANLO3}
use Rattle.libm.specs.Atan2.{PI_LO}
use Rattle.libm.specs.Acos.{PIO2_HI, PIO2_LO}
use Rattle.libm.specs.RemPio2.{INV_PIO2, PIO2_1, PIO2_1T, PIO2_2, PIO2_2T, PIO2_3, PIO2_3T}
use Rattle.chord_counts.specs.Chords.{fewest, most}
use Rattle.chord_counts.specs.Counts.{MOST, limited_c, count_c}
use Rattle.waves.specs.TurningPoints.{TURNING_POINTS}
use Rattle.integrals.specs.Gauss as gauss
use Rattle.piece_boxes.specs.Brackets.{intervals, HALVINGS}
use Rattle.piece_boxes.specs.MeetBoxes.{SAMPLES, WINDOWS}
use Rattle.piece_lengths.specs.Measures.{CHORDS, PLACES, steps}
use Rattle.piece_lengths.specs.Counts as counts
use Rattle.curves.specs.Drawn.{CURVE_ROW}

-- ---- refusals, in the order of their numbers
abbrev pub refusals : List ℕ
refusals = 1 ∷ 2 ∷ 3 ∷ 4 ∷ 5 ∷ 6 ∷ 7 ∷ 8 ∷ 9 ∷ 10 ∷ 11 ∷ []

refusals-named :
    refusals
    ≡ OUT_OF_RANGE
    ∷ NEUTRAL_NOT_POSITIVE
    ∷ ARC_AND_TRACE
    ∷ BAD_BOX_OR_SUMS
    ∷ BAD_TOLERANCE
    ∷ ROW_TOO_SHORT
    ∷ PIECE_ON_CONE
    ∷ ANGLE_TOO_LARGE
    ∷ NOT_FINITE
    ∷ COUNT_TOO_LARGE
    ∷ MALFORMED_FILE
    ∷ []
refusals-named = refl

-- ---- limits
-- 1,048,576, of numbers handed in and of angles
limit_is : limit ≡ literal 0x4130_0000_0000_0000
limit_is = refl

-- of counts of chords and pieces, and of a wave's turning points
most_is : MOST ∷ TURNING_POINTS ∷ [] ≡ 4096 ∷ 4096 ∷ []
most_is = refl

-- a count of 4,096 is accepted, one of 4,097 is not
accepted_is : count_c (float 4096) one MOST ≡ given 4096
unfolding count_c limited_c first nine is_finite ceil greatest negative le lt eq of_int of_bits round to_unsigned
accepted_is = refl

refused_is : (count_c (float 4097) one MOST).refusal ≡ 10
unfolding count_c limited_c first nine is_finite ceil greatest negative le lt eq of_int of_bits round to_unsigned
refused_is = refl

-- three numbers for each of 4,095 points: the longest row that a curve can ask for
row_is : CURVE_ROW ≡ 12285
row_is = refl

-- 12 and 64, of the chords of a full turn
turn_is : fewest ∷ most ∷ [] ≡ literal 0x4028_0000_0000_0000 ∷ literal 0x4050_0000_0000_0000 ∷ []
turn_is = refl

-- ---- how often
-- a meet's box: 65 samples, at every 64th of t, and 60 halvings
box_is : SAMPLES ∷ WINDOWS ∷ HALVINGS ∷ [] ≡ 65 ∷ 64 ∷ 60 ∷ []
box_is = refl

box_steps_is : intervals ≡ literal 0x4050_0000_0000_0000
box_steps_is = refl

-- the measure of a trace: 32 chords between 33 places, at every 32nd of t
measure_is : CHORDS ∷ PLACES ∷ [] ≡ 32 ∷ 33 ∷ []
measure_is = refl

measure_steps_is : steps ≡ literal 0x4040_0000_0000_0000
measure_steps_is = refl

-- the polyline of a meet: 257 second derivatives, at every 256th of t
polyline_is : counts.SAMPLES ≡ 257
polyline_is = refl

polyline_steps_is : counts.samples ≡ literal 0x4070_0000_0000_0000
polyline_steps_is = refl

-- ---- π, 2π and π/4, rounded
abbrev pub angles : List Float
angles = literal 0x4009_21fb_5444_2d18 ∷ literal 0x4019_21fb_5444_2d18 ∷ literal 0x3fe9_21fb_5444_2d18 ∷ []

angles_named : angles ≡ pi ∷ tau ∷ quarter_pi ∷ []
angles_named = refl

-- π/4 and π/2 in two parts, and what π is short of
parts_are :
    ATANHI1 ∷ ATANLO1 ∷ ATANHI3 ∷ ATANLO3 ∷ PIO2_HI ∷ PIO2_LO ∷ PI_LO ∷ []
    ≡ literal 0x3fe9_21fb_5444_2d18
    ∷ literal 0x3c81_a626_3314_5c07
    ∷ literal 0x3ff9_21fb_5444_2d18
    ∷ literal 0x3c91_a626_3314_5c07
    ∷ literal 0x3ff9_21fb_5444_2d18
    ∷ literal 0x3c91_a626_3314_5c07
    ∷ literal 0x3ca1_a626_3314_5c07
    ∷ []
parts_are = refl

-- 2/π, and π/2 in three parts of 33 bits, after each what is then left
reduction-is :
    INV_PIO2 ∷ PIO2_1 ∷ PIO2_1T ∷ PIO2_2 ∷ PIO2_2T ∷ PIO2_3 ∷ PIO2_3T ∷ []
    ≡ literal 0x3fe4_5f30_6dc9_c883
    ∷ literal 0x3ff9_21fb_5440_0000
    ∷ literal 0x3dd0_b461_1a62_6331
    ∷ literal 0x3dd0_b461_1a60_0000
    ∷ literal 0x3ba3_198a_2e03_7073
    ∷ literal 0x3ba3_198a_2e00_0000
    ∷ literal 0x397b_839a_2520_49c1
    ∷ []
reduction-is = refl

-- ---- the rule of Gauss and Legendre: 0.1834346424956498, 0.525532409916329, 0.7966664774136267, 0.9602898564975362 and
-- the weights 0.362683783378362, 0.3137066458778873, 0.2223810344533745, 0.1012285362903763
abbrev pub nodes : List Float
nodes = literal 0x3fc7_7ac9_4f3c_7345 ∷ literal 0x3fe0_d129_5832_84b4 ∷ literal 0x3fe9_7e4a_b249_f41e ∷ literal 0x3fee_bab1_cb0a_cc66 ∷ []

abbrev pub weights : List Float
weights = literal 0x3fd7_3636_0b19_9343 ∷ literal 0x3fd4_13c5_0a25_5616 ∷ literal 0x3fcc_76fb_531d_2b97 ∷ literal 0x3fb9_ea1d_04ca_0377 ∷ []

nodes_named : nodes ≡ gauss.nodes
nodes_named = refl

weights_named : weights ≡ gauss.weights
weights_named = refl
