-- Integrals of a face on a surface of revolution: `revolution` over the list of its paths, and the
-- calls that stand in its place.
use Rattle.std.specs.Prelude.{ℕ, Bool, true, not, ◌&&◌, List, [], ◌∷◌}
use Rattle.std.specs.Float.Ieee.{lt, eq}
use Rattle.checked.specs.Refusals.{OUT_OF_RANGE, NEUTRAL_NOT_POSITIVE, ARC_AND_TRACE, BAD_BOX_OR_SUMS, PIECE_ON_CONE}
use Rattle.checked.specs.Checked.{Checked, ◌>>=◌, given, Due, due, answered}
use Rattle.checked.specs.Answers.{and_then}
use Rattle.checked.specs.Tests.{fails, ◌or◌, passing}
use Rattle.checked.specs.Numbers.{zero}
use Rattle.vectors.specs.declared.Vec3.{Vec3}
use Rattle.vectors.specs.Vectors.{within3}
use Rattle.arcs.specs.declared.Arc.{Arc}
use Rattle.arcs.specs.Sweep.{ends_within}
use Rattle.pieces.specs.declared.Rolled.{Rolled}
use Rattle.pieces.specs.Tests.{both}
use Rattle.pieces.specs.Entries.{piece_within}
use Rattle.cones.specs.declared.Cone.{Cone}
use Rattle.cones.specs.Entries.{cone_within}
use Rattle.integrals.specs.declared.Integrals.{Integrals}
use Rattle.integrals.specs.Sums.{finite_sums, nothing}
use Rattle.checked.specs.Lists.{fold_list_c}
use Rattle.integrals.specs.declared.integrands.Revolved.{Revolved}
use Rattle.integrals.specs.Integrands.{revolved_c}
use Rattle.face_paths.specs.ArcPaths.{arc_path_c}
use Rattle.face_paths.specs.Paths.{piece_path_c}
use Rattle.revolutions.specs.Closings.{close_c, close_due}

-- A curve of the face's outline, as its loop runs it: an arc about the axis from one point to
-- another, or a piece of a development.
pub data Path : Type 0 where
  arc : Arc → Vec3 → Vec3 → Path
  piece : Rolled → Path

-- ---- what is tried of a path, by number
-- 1: its numbers pass the test of what is handed in
unfoldable pub path_within : Path → Bool
path_within (arc a u v) = ends_within a.center a.axis a.radius u v
path_within (piece p) = piece_within p

-- 2: its neutral radius, where it has one, is above 0
unfoldable pub path_neutral : Path → Bool
path_neutral (arc a u v) = true
path_neutral (piece p) = lt zero p.dev.neutral

-- 3: it has no arc together with a trace
unfoldable pub path_single : Path → Bool
path_single (arc a u v) = true
path_single (piece p) = not (both p.arc p.trace)

-- 7: a piece of a development lies on no cone whose slope is not 0; -0 is 0
unfoldable pub lies_on : Cone → Path → Bool
lies_on cone (arc a u v) = true
lies_on cone (piece p) = eq cone.slope zero

-- the running sums after the path
unfoldable pub path_c : Revolved → Path → Integrals → Checked Integrals
path_c v (arc a from to) s = arc_path_c v a from to s
path_c v (piece p) s = piece_path_c v p s

-- ---- the Rust's `revolution`
-- the sums of all paths: the surface is worked out before the first one, and where there is none
-- nobody reads it
unfoldable pub sums_c : Cone → Vec3 → List Path → Checked Integrals
sums_c cone o [] = given nothing
sums_c cone o (p ∷ ps) = do
  v ← revolved_c cone o
  fold_list_c (path_c v) (p ∷ ps) nothing

unfoldable pub revolution_c : Cone → Vec3 → List Path → Integrals → Checked Integrals
revolution_c cone o ps acc = do
  s ← sums_c cone o ps
  close_c acc cone.convex s

-- a test of every path
unfoldable pub every : (Path → Bool) → List Path → Bool
every test [] = true
every test (p ∷ ps) = test p && every test ps

-- the number of the test that fails first, of one path or of all: its numbers and those of the face, 1; 2; 3; the sums, 4; 7
unfoldable pub tests : Bool → Bool → Bool → Bool → Bool → ℕ
tests within neutral single finite lies =
    fails OUT_OF_RANGE within
    or fails NEUTRAL_NOT_POSITIVE neutral
    or fails ARC_AND_TRACE single
    or fails BAD_BOX_OR_SUMS finite
    or fails PIECE_ON_CONE lies

-- the face's cone, and the point that volumes are measured from
unfoldable pub face_within : Cone → Vec3 → Bool
face_within cone o = cone_within cone && within3 o

-- the number of the test that a piece and what is handed in with it fail first
abbrev pub piece_tests : Cone → Vec3 → Rolled → Integrals → ℕ
piece_tests cone o p s =
    tests (face_within cone o && path_within (piece p)) (path_neutral (piece p)) (path_single (piece p)) (finite_sums s) (lies_on cone (piece p))

-- what it is due: the tests of all that is handed in, the lowest number first, then the computation
unfoldable pub revolution_due : Cone → Vec3 → List Path → Integrals → Due Integrals
revolution_due cone o ps acc =
    passing
    (tests (face_within cone o && every path_within ps) (every path_neutral ps) (every path_single ps) (finite_sums acc) (every (lies_on cone) ps))
    (answered (revolution_c cone o ps acc))

-- ---- the calls in its place
-- opening: nothing is summed yet
unfoldable pub open_due : Cone → Vec3 → Due Integrals
open_due cone o = passing (fails OUT_OF_RANGE (face_within cone o)) (due nothing)

-- the running sums after one path, whose call works out the surface for itself
unfoldable pub add_c : Cone → Vec3 → Path → Integrals → Checked Integrals
add_c cone o p s = do
  v ← revolved_c cone o
  path_c v p s

-- adding a path
unfoldable pub add_due : Cone → Vec3 → Path → Integrals → Due Integrals
add_due cone o p s =
    passing
    (tests (face_within cone o && path_within p) (path_neutral p) (path_single p) (finite_sums s) (lies_on cone p))
    (answered (add_c cone o p s))

-- a call for each path, in their order
unfoldable pub added_in_turn : Cone → Vec3 → List Path → Integrals → Due Integrals
added_in_turn cone o [] s = due s
added_in_turn cone o (p ∷ ps) s = and_then (add_due cone o p s) (added_in_turn cone o ps)

-- all calls
unfoldable pub in_turn : Cone → Vec3 → List Path → Integrals → Due Integrals
in_turn cone o ps acc = and_then (and_then (open_due cone o) (added_in_turn cone o ps)) (λ s. close_due cone s acc)
