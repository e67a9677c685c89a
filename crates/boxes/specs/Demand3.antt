-- Where any list of box calls leaves the box: `Met` is the claim, `all_lists` shows it of every list, and `same_box` follows.
-- It is stated of any kind of edge, given the number of the test that an edge handed in fails first (`handed`) and how its ends and extreme points are worked out
-- (`points`). `box_call` is the call, with which the contracts of the box calls in the code agree.
-- Proved in proofs/Demand3.antt.
use Prim.Native.Nat.{ℕ}
use Rattle.std.specs.Prelude.{◌≡◌, Bool}
use Rattle.std.proofs.Math.Bool.{true, false, cond}
use mathlib.Core.List.{List, [], ◌∷◌, ◌++◌, map}
use Rattle.order.specs.Extremes.{Least, Greatest, Same, Within}
use Rattle.vectors.specs.declared.Vec3.{Vec3}
use Rattle.checked.specs.Checked.{Checked, Due, due, refused}
use Rattle.checked.specs.Answers.{after}
use Rattle.boxes.specs.Boxes.{Axis, at, empty, box_call}
use Rattle.boxes.specs.declared.Bounds.{Bounds}

-- ================ the claim

-- what a call answers, the box apart: accepted, or refused with a number
abbrev pub answer : Due Bounds → Due Unit
answer (due c) = due tt
answer (refused n) = refused n

abbrev pub is_due : Due Bounds → Bool
is_due (due c) = true
is_due (refused n) = false

-- Edge: whatever a box call is handed, the box apart
module _ {Edge : Type 0} (handed : Edge → ℕ) (points : Edge → Checked (List Vec3)) where
  -- a call with an edge
  abbrev pub call : Bounds → Edge → Due Bounds
  call b e = box_call (handed e) (points e) b

  -- an edge is accepted where its call on the empty box is due no refusal; the accepted ones of a list
  abbrev pub accepted : Edge → Bool
  accepted e = is_due (call empty e)

  unfoldable pub accepted_of : List Edge → List Edge
  accepted_of [] = []
  accepted_of (e ∷ es) = cond (accepted e) (e ∷ accepted_of es) (accepted_of es)

  -- a list of calls, each on the box that the one before it left: the last box, and the answers
  unfoldable pub run : Bounds → List Edge → Bounds
  run b [] = b
  run b (e ∷ es) = run (after b (call b e)) es

  unfoldable pub answers : Bounds → List Edge → List (Due Unit)
  answers b [] = []
  answers b (e ∷ es) = answer (call b e) ∷ answers (after b (call b e)) es

  -- the ends and extreme points of edges
  unfoldable pub points_of : List Edge → List Vec3
  points_of [] = []
  points_of (e ∷ es) = (points e).value ++ points_of es

  -- From the first box b, after calls with the edges es:
  -- low: the low corner is the least of the first low corner and of the accepted edges' ends and extreme points, in each coordinate;
  -- high: the high corner is the greatest of the first high corner and of these;
  -- each: each call is accepted, or refused with its number, as its edge is due on the empty box.
  pub record Met (b : Bounds) (es : List Edge) : Type 0 where
    pub low : (k : Axis) → Least (at k (run b es).low) (at k b.low ∷ map (at k) (points_of (accepted_of es)))
    pub high : (k : Axis) → Greatest (at k (run b es).high) (at k b.high ∷ map (at k) (points_of (accepted_of es)))
    pub each : answers b es ≡ map (λ e. answer (call empty e)) es

  -- the accepted edges of the one list are those of the other, whatever their order and repeats
  pub record SameAccepted (es fs : List Edge) : Type 0 where
    pub there : Within (accepted_of es) (accepted_of fs)
    pub back : Within (accepted_of fs) (accepted_of es)

-- the same box, zeros by their signs too
pub record SameBox (b c : Bounds) : Type 0 where
  pub low : (k : Axis) → Same (at k b.low) (at k c.low)
  pub high : (k : Axis) → Same (at k b.high) (at k c.high)
