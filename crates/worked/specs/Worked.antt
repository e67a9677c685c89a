-- Cases worked out by hand: one list, which one lemma checks by computing what is due.
use Rattle.std.specs.Prelude.{ℕ, zero as none, suc, ◌/◌, ◌%◌, ◌≡◌, refl, true, false, List, [], ◌∷◌, ◌++◌, length, Float, Some, None, Option}
use Prim.Native.String.{String}
use Rattle.std.specs.Float.{binary64}
use Rattle.std.specs.Float.Ieee.{add, sub, mul, div, neg, lt, le, eq, is_nan, of_bits, to_bits, of_int, to_unsigned, to_signed}
use Rattle.checked.specs.Checked.{Due, due, refused, first, is_finite, nine, eight, within, settled}
use Rattle.checked.specs.Patterns.{bits}
use Rattle.checked.specs.Numbers.{zero, one, two, three, float}
use Rattle.float_bits.specs.FloatBits.{fabs, signed, choose}
use Rattle.rounding.specs.Root.{sqrt}
use Rattle.rounding.specs.Whole.{ceil}
use Rattle.libm.specs.RemPio2.{second_round, medium, to_five, to_nine, rem_pio2}
use Rattle.libm.specs.Sincos.{turned_sines, sines, sines_or_zeros}
use Rattle.libm.specs.Acos.{acos_far, acos_near}
use Rattle.libm.specs.Roots.{acos, hypot}
use Rattle.chord_counts.specs.Chords.{quotient_c, chords_c, clamped, per_turn_c}
use Rattle.chord_counts.specs.Counts.{limited_c, count_c}
use Rattle.rows.specs.Rows.{up_to}
use Rattle.libm.specs.Atan.{reduced, atan}
use Rattle.libm.specs.Atan2.{is_one, ratio_angle, angle, atan2}
use Rattle.order.specs.Least.{negative, least, greatest}
use Rattle.vectors.specs.declared.Vec2.{Vec2}
use Rattle.vectors.specs.declared.Vec3.{Vec3}
use Rattle.vectors.specs.Vectors.{space, plane, origin, within2, within3, plus_c, minus_c, times_c, neg_c, cross_c, dot_c}
use Rattle.boxes.specs.Boxes.{empty, lesser, greater, widened, widened_by, numbers, free, box_call}
use Rattle.profile_arcs.specs.declared.ProfileArc.{ProfileArc}
use Rattle.directions.specs.Directions.{length_c, across_c}
use Rattle.profile_arcs.specs.Angles.{ahead_c, back_c}
use Rattle.profile_arcs.specs.Profiles.{apart_c, turn_c, turn_due}
use Rattle.arcs.specs.Sweep.{circle_within, ends_within, sweep_from_c, sweep_c}
use Rattle.arcs.specs.Points.{radius_vector_c, turned_c, at_c}
use Rattle.arcs.specs.Extremes.{side_c, taken_c, both_c, extremes_c, points_c}
use Rattle.arcs.specs.Chords.{chord_within, cut_c, inner_c, inners_due}
use Rattle.arcs.specs.declared.Arc.{Arc}
use Rattle.arcs.specs.Arcs.{reversed_c}
use Rattle.arcs.specs.Entries.{reversed_due, sweep_due, extend_due, inner_points_due}
use Rattle.checked.specs.Tests.{fails, passing, neutral_test, chord_test}
use Rattle.waves.specs.Values.{derivatives_c}
use Rattle.waves.specs.declared.Wave.{Wave}
use Rattle.waves.specs.Entries.{wave_within, at_due}
use Rattle.meets.specs.Quadratic.{own_c, lesser_c, intersection_c}
use Rattle.meets.specs.Generatrix.{height_c as z_c}
use Rattle.meets.specs.declared.Meet.{Meet}
use Rattle.meets.specs.Meets.{pipe_c, height_c}
use Rattle.meets.specs.Entries.{turn_within, meet_within}
use Rattle.traces.specs.declared.Trace.TheVariants as trace
use Rattle.traces.specs.Traces.{meet_height_c, meet_c, v_c, trace_within, v_due}
use Rattle.libm.specs.Hypot as hypotenuse
use Rattle.developments.specs.declared.Development.{Development}
use Rattle.developments.specs.Developments.{development_within}
use Rattle.piece_curves.specs.PieceCurves as runs
use Rattle.piece_curves.specs.Points as run_points
use Rattle.piece_lengths.specs.Measures.{distance_c}
use Rattle.piece_boxes.specs.CurveBoxes as run_boxes
use Rattle.piece_lengths.specs.Counts.{steep_c, off_c, wave_line_c, polyline_c}
use Rattle.pieces.specs.Tests.{arc_within, followed_within, is_traced, both}
use Rattle.pieces.specs.declared.Rolled.{Rolled}
use Rattle.pieces.specs.Pieces.{run_c}
use Rattle.pieces.specs.Entries as pieces
use Rattle.decimals.specs.Thousandths.{signed as signed_whole, thousandths}
use Rattle.decimals.specs.Digits.{spelled, digits, numeral}
use Rattle.edge_lines.specs.Lines.{bytes, spaced, corner, empty_line, refused_line, box_line}
use Rattle.edge_records.specs.Records.{low_first, number_at, point_at, tagged, head_of, kind_of, edge_of, record_of, size_of}
use Rattle.edge_file.specs.EdgeFile.{next, ended, line_from, line_of}

-- what a case says
pub data Case : Type 0 where
  -- an arc, and the same run the other way
  reverses : Arc → Arc → Case
  -- the sweep of an arc from one point to another
  sweeps : Arc → Vec3 → Vec3 → Float → Case
  -- how many inner points an arc from one point to another is drawn with, for a chord and a row
  -- long enough
  draws : Arc → Vec3 → Vec3 → Float → ℕ → Case
  -- the box of an arc from one point to another
  boxed : Arc → Vec3 → Vec3 → Vec3 → Vec3 → Case
  -- the turn of a profile arc
  turns : ProfileArc → Vec2 → Vec2 → Float → Case
  -- v of a wave at u for a neutral radius, its first and its second derivative
  waves : Wave → Float → Float → Float → Float → Float → Case
  -- v of a meet at u for a neutral radius
  meets : Meet → Float → Float → Float → Case
  -- the point of a piece at t, and its derivative
  places : Rolled → Float → Vec2 → Vec2 → Case
  -- the least and the greatest u and v of a piece
  spans : Rolled → Vec2 → Vec2 → Case
  -- how many chords a polyline through a piece has, for a deviation
  polylines : Rolled → Float → ℕ → Case
  -- the line that is printed of a file
  prints : List ℕ → String → Case

-- how many points are due
abbrev pub how_many : Due (List Vec3) → Due ℕ
how_many (due ps) = due (length ps)
how_many (refused n) = refused n

-- it holds where the definitions compute to it
abbrev pub Holds : Case → Type 0
Holds (reverses arc back) = reversed_due arc ≡ due back
Holds (sweeps arc from to angle) = sweep_due arc from to ≡ due angle
Holds (draws arc from to chord n) = how_many (inner_points_due arc from to chord 189) ≡ due n
Holds (boxed arc from to low high) = extend_due arc from to empty ≡ due (record { low = low; high = high })
Holds (turns arc a b angle) = turn_due arc a b ≡ due angle
Holds (waves w u n v slope bend) = at_due w u n ≡ due (record { v = v; slope = slope; bend = bend })
Holds (meets m u n v) = v_due (trace.Meet m) u n ≡ due (Some v)
Holds (places p t at d) = pieces.at_due p t ≡ due (record { p = at; d = d })
Holds (spans p low high) = pieces.uv_box_due p ≡ due (record { low = low; high = high })
Holds (polylines p deviation n) = pieces.polyline_due p deviation ≡ due n
Holds (prints file line) = line_of file ≡ bytes line

abbrev pub All : List Case → Type 0
All [] = Unit
All (c ∷ cs) = Holds c × All cs

-- 5, 2π, π/2, 3π/2
abbrev five : Float
five = of_bits binary64 0x4014_0000_0000_0000

abbrev full_turn : Float
full_turn = of_bits binary64 0x4019_21fb_5444_2d18

abbrev quarter_turn : Float
quarter_turn = of_bits binary64 0x3ff9_21fb_5444_2d18

abbrev three_quarters : Float
three_quarters = of_bits binary64 0x4012_d97c_7f33_21d2

-- the arc A: centre at the origin, axis along z, radius 5; and A run the other way
abbrev A : Arc
A = record { center = origin; axis = space zero zero one; radius = five }

abbrev Aʳ : Arc
Aʳ = record { center = origin; axis = space (neg zero) (neg zero) (neg one); radius = five }

abbrev east : Vec3
east = space five zero zero

abbrev north : Vec3
north = space zero five zero

abbrev west : Vec3
west = space (neg five) zero zero

-- clockwise around the origin
abbrev clockwise : ProfileArc
clockwise = record { center = plane zero zero; ccw = false }

-- v = 2 + 3·cos(u / n)
abbrev swing : Wave
swing = record { a = two; b = three; c = zero }

-- the cylinder of radius 10 along x, 20 above the origin, met by the development's own pipe
abbrev main : Meet
main = record { origin = space zero zero (float 20); axis = space one zero zero; radius = float 10; own = one; turn = None }

-- a development around z, of the neutral radius 10; in it a piece straight on, one about the
-- origin, and one along a wave of no amplitude
abbrev sheet : Development
sheet = record { origin = origin; axis = space zero zero one; start = space one zero zero; neutral = float 10 }

abbrev straight : Rolled
straight = record { dev = sheet; from = plane zero zero; to = plane (float 8) (float 4); arc = None; trace = None }

abbrev bow : Rolled
bow = record { dev = sheet; from = plane five zero; to = plane zero five; arc = Some (record { center = plane zero zero; ccw = true }); trace = None }

abbrev level : Rolled
level = record { dev = sheet; from = plane zero zero; to = plane (float 8) zero; arc = None; trace = Some (trace.Wave (record { a = zero; b = zero; c = zero })) }

-- 0.25
abbrev quarter : Float
quarter = of_bits binary64 0x3fd0_0000_0000_0000

-- ---- an edge file
-- n as k bytes, low byte first
unfoldable in_bytes : ℕ → ℕ → List ℕ
in_bytes none n = []
in_bytes (suc k) n = n % 256 ∷ in_bytes k (n / 256)

unfoldable number : Float → List ℕ
unfolding in_bytes
number x = in_bytes 8 (bits x)

unfoldable point : Vec3 → List ℕ
unfolding number
point p = number p.x ++ number p.y ++ number p.z

-- a record of tag 1 and length 104, and the end record
unfoldable arc_record : Arc → Vec3 → Vec3 → List ℕ
unfolding point number
arc_record arc from to = 1 ∷ 104 ∷ 0 ∷ point arc.center ++ point arc.axis ++ number arc.radius ++ point from ++ point to

abbrev end_record : List ℕ
end_record = 127 ∷ 0 ∷ 0 ∷ []

pub cases : List Case
cases =
    reverses A Aʳ
    ∷ sweeps A east east full_turn
    ∷ draws A east east five 11
    ∷ draws A east east zero 63
    ∷ sweeps A east north quarter_turn
    ∷ draws A east north five 2
    ∷ draws A east north zero 15
    ∷ sweeps Aʳ east north three_quarters
    ∷ draws Aʳ east north five 8
    ∷ boxed A east north origin (space five five zero)
    ∷ boxed A east west (space (neg five) zero zero) (space five five zero)
    ∷ prints (arc_record A east west ++ end_record) "box -5000 0 0 5000 5000 0\n"
    ∷ turns clockwise (plane five zero) (plane five zero) (neg full_turn)
    ∷ waves swing zero (float 10) five zero (div binary64 (neg three) (float 100))
    ∷ meets main zero five (float 10)
    ∷ places straight quarter (plane two one) (plane (float 8) (float 4))
    ∷ polylines straight one 1
    ∷ spans bow (plane (neg five) (neg five)) (plane five five)
    ∷ polylines level one 2
    ∷ []

-- every case computes
pub all_hold : All cases
unfolding cases add sub mul div neg lt le eq is_nan of_bits to_bits first is_finite nine within settled fabs signed choose sqrt reduced atan is_one ratio_angle angle atan2 negative least greatest within2 within3 plus_c minus_c times_c neg_c cross_c dot_c lesser greater widened widened_by numbers free box_call length_c across_c ahead_c back_c apart_c turn_c turn_due sweep_from_c sweep_c side_c taken_c both_c extremes_c points_c circle_within ends_within chord_within sweep_due extend_due reversed_c reversed_due in_bytes number point arc_record signed_whole thousandths spelled digits numeral bytes spaced corner empty_line refused_line box_line low_first number_at point_at tagged head_of kind_of edge_of record_of size_of next ended line_from line_of of_int to_unsigned to_signed eight ceil second_round medium to_five to_nine rem_pio2 turned_sines sines sines_or_zeros acos_far acos_near acos quotient_c chords_c clamped per_turn_c limited_c count_c up_to radius_vector_c turned_c at_c cut_c inner_c inners_due inner_points_due fails passing neutral_test chord_test derivatives_c wave_within at_due own_c lesser_c intersection_c z_c pipe_c height_c turn_within meet_within meet_height_c meet_c v_c trace_within v_due hypotenuse.greater hypotenuse.lesser hypotenuse.hypot_ordered hypot development_within runs.kind_c runs.curve_c run_points.straight_c run_points.at_c distance_c run_boxes.ends run_boxes.arc_c run_boxes.box_c steep_c off_c wave_line_c polyline_c arc_within followed_within is_traced both run_c pieces.piece_within pieces.tests pieces.at_due pieces.uv_box_due pieces.polyline_due
all_hold = (refl, (refl, (refl, (refl, (refl, (refl, (refl, (refl, (refl, (refl, (refl, (refl, (refl, (refl, (refl, (refl, (refl, (refl, (refl, tt)))))))))))))))))))
