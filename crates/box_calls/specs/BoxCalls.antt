-- Where any list of box calls leaves the box. An edge is an arc or a piece with its two ends, whichever entry widens by
-- it; `run` makes calls of both entries as their contracts have it. Assumes nothing.
use Rattle.std.specs.Prelude.{◌≡◌, refl, ℕ, ◌&&◌, List, [], ◌∷◌, map, T}
use Rattle.std.proofs.Common.{sym, ◌∙◌, ap, ap₂, subst}
use Rattle.checked.specs.Refusals.{OUT_OF_RANGE}
use Rattle.checked.specs.Checked.{Checked, Due}
use Rattle.checked.specs.Answers.{after}
use Rattle.checked.specs.TestsLaws.{fails_both}
use Rattle.vectors.specs.Vectors.{within3}
use Rattle.vectors.specs.declared.Vec3.{Vec3}
use Rattle.boxes.specs.declared.Bounds.{Bounds}
use Rattle.boxes.specs.Boxes.{free, empty, Sound, box_call}
use Rattle.boxes.specs.Demand3 as Demand3
use Rattle.boxes.proofs.Demand3 as boxes_proved
use Rattle.boxes.specs.Demand3.{answer, Met, SameAccepted, SameBox}
use Rattle.arcs.specs.declared.Arc.{Arc}
use Rattle.arcs.specs.Sweep.{circle_within, ends_within}
use Rattle.arcs.specs.Entries as arcs
use Rattle.curves.specs.declared.Curve.{Curve}
use Rattle.curves.specs.declared.Curve.TheVariants as curve
use Rattle.curves.specs.Curves.{points_c}
use Rattle.curves.specs.Entries as curves
use Rattle.curves.specs.Laws as curves_laws

-- ================ the claim

-- an arc or a piece, and two ends
pub record Edge : Type 0 where
  pub curve : Curve
  pub from : Vec3
  pub to : Vec3

-- a box call, by its entry and what that is handed, the box apart
pub data Call : Type 0 where
  -- `Arc::extend_bounds`
  ByArc : Arc → Vec3 → Vec3 → Call
  -- `Curve::extend_bounds`
  ByCurve : Curve → Vec3 → Vec3 → Call

-- the edge that it widens by
abbrev pub edge : Call → Edge
edge (ByArc arc from to) = record { curve = curve.Arc arc; from = from; to = to }
edge (ByCurve c from to) = record { curve = c; from = from; to = to }

-- what its entry is due to answer
abbrev pub call_due : Call → Bounds → Due Bounds
call_due (ByArc arc from to) b = arcs.extend_due arc from to b
call_due (ByCurve c from to) b = curves.extend_due c from to b

-- calls, each on the box that the one before it left: the last box, and the answers
unfoldable pub run : Bounds → List Call → Bounds
run b [] = b
run b (c ∷ cs) = run (after b (call_due c b)) cs

unfoldable pub answers : Bounds → List Call → List (Due Unit)
answers b [] = []
answers b (c ∷ cs) = answer (call_due c b) ∷ answers (after b (call_due c b)) cs

-- the number of the test that an edge fails first
abbrev pub handed : Edge → ℕ
handed e = curves.handed e.curve e.from e.to

-- its ends and extreme points, as they are worked out
abbrev pub points : Edge → Checked (List Vec3)
points e = points_c e.curve e.from e.to

-- From the first box b, after the calls cs:
-- leave: the box is that of their edges, of which `met` says that it is the least and greatest of the first corners and of
-- the accepted edges' ends and extreme points;
-- each: each call is accepted, or refused with its number, as it is due on the empty box.
pub record CallsMet (b : Bounds) (cs : List Call) : Type 0 where
  pub leave : run b cs ≡ Demand3.run handed points b (map edge cs)
  pub met : Met handed points b (map edge cs)
  pub each : answers b cs ≡ map (λ c. answer (call_due c empty)) cs

-- ================ the proof

-- a call on a box with an edge
abbrev pub call : Bounds → Edge → Due Bounds
call = Demand3.call handed points

pub one_edge : (c : Call) (b : Bounds) → call b (edge c) ≡ call_due c b
unfolding arcs.extend_due curves.extend_due curves.handed curves.tests points_c ends_within
one_edge (ByArc arc from to) b = ap (λ (h : ℕ). box_call h (arcs.points arc from to) b) (fails_both OUT_OF_RANGE (within3 from && within3 to) (circle_within arc.center arc.axis arc.radius))
one_edge (ByCurve c from to) b = refl

run_is : (b : Bounds) (cs : List Call) → run b cs ≡ Demand3.run handed points b (map edge cs)
unfolding run Demand3.run
run_is b [] = refl
run_is b (c ∷ cs) = run_is (after b (call_due c b)) cs ∙ ap (λ (d : Due Bounds). Demand3.run handed points (after b d) (map edge cs)) (sym (one_edge c b))

answers_are : (b : Bounds) (cs : List Call) → answers b cs ≡ Demand3.answers handed points b (map edge cs)
unfolding answers Demand3.answers
answers_are b [] = refl
answers_are b (c ∷ cs) =
    ap (λ (rest : List (Due Unit)). answer (call_due c b) ∷ rest) (answers_are (after b (call_due c b)) cs)
    ∙ ap (λ (d : Due Bounds). answer d ∷ Demand3.answers handed points (after b d) (map edge cs)) (sym (one_edge c b))

edges_each : (cs : List Call) → map (λ e. answer (call empty e)) (map edge cs) ≡ map (λ c. answer (call_due c empty)) cs
edges_each [] = refl
edges_each (c ∷ cs) = ap₂ (λ (d : Due Bounds) (rest : List (Due Unit)). answer d ∷ rest) (one_edge c empty) (edges_each cs)

sound : (e : Edge) → handed e ≡ 0 → Sound (points e)
sound e h = curves_laws.points_sound e.curve e.from e.to

-- every list of box calls, from every box free of NaN
pub box_calls_met : (b : Bounds) → T (free b) → (cs : List Call) → CallsMet b cs
box_calls_met b F cs =
    let met = boxes_proved.all_lists handed points sound b F (map edge cs) in
    record { leave = run_is b cs; met = met; each = answers_are b cs ∙ (met.each ∙ edges_each cs) }

-- the same accepted edges, in whatever order, however often and by whichever entries, leave the same box
pub same_box : (b : Bounds) → T (free b) → (cs ds : List Call) → SameAccepted handed points (map edge cs) (map edge ds) → SameBox (run b cs) (run b ds)
same_box b F cs ds A = rw (run_is b cs, run_is b ds) (boxes_proved.same_box handed points sound b F (map edge cs) (map edge ds) A)
