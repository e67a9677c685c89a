-- What the steps along a path are refused by, in their order. Assumes nothing.
use Rattle.std.specs.Prelude.{◌≡◌, Float}
use Rattle.std.specs.Float.{binary64}
use Rattle.std.specs.Float.Ieee.{add, sub, mul, div}
use Rattle.checked.specs.Checked.{Checked, first, nine}
use Rattle.checked.specs.Laws.{rules as checked_rules}
use Rattle.checked.specs.Numbers.{one, quarter_pi}
use Rattle.float_bits.specs.FloatBits.{fabs}
use Rattle.vectors.specs.declared.Vec2.{Vec2}
use Rattle.vectors.specs.declared.Vec3.{Vec3}
use Rattle.vectors.specs.Vectors.{minus_c, dot_c}
use Rattle.vectors.specs.Laws.{rules as vectors_rules}
use Rattle.chord_counts.specs.Counts.{MOST, count_c}
use Rattle.profile_arcs.specs.declared.ProfileArc.{ProfileArc}
use Rattle.profile_arcs.specs.Angles.{angle_c}
use Rattle.waves.specs.declared.Wave.{Wave}
use Rattle.waves.specs.Values.{v_c}
use Rattle.arcs.specs.declared.Arc.{Arc}
use Rattle.arcs.specs.Sweep.{sweep_c}
use Rattle.cones.specs.declared.Frame.{Frame}
use Rattle.cones.specs.Frames as frames
use Rattle.integrals.specs.Sums.{side}
use Rattle.piece_curves.specs.declared.PieceCurve.{PieceCurve}
use Rattle.piece_curves.specs.Points.{swung_c}
use Rattle.face_paths.specs.declared.arc_paths.ArcPath.{ArcPath}
use Rattle.face_paths.specs.declared.piece_paths.PiecePath.{PiecePath}
use Rattle.face_paths.specs.ArcPaths.{arc_path_of_c, arc_path_at}
use Rattle.face_paths.specs.PiecePaths.{piece_path_of_c, piece_path_at}
use Rattle.face_paths.specs.PieceRates.{straight_c, arc_c, wave_c, rate_c}

ruleset all = (checked_rules, vectors_rules)

-- ---- an arc
module _ (f : Frame) (arc : Arc) (u v : Vec3) where
  abbrev swept : Checked Float
  swept = sweep_c arc.center arc.axis u v

  abbrev along : Checked Float
  along = dot_c arc.axis f.axis

  abbrev turned : Float
  turned = mul binary64 swept.value (side along.value)

  abbrev panels : Float
  panels = div binary64 (fabs turned) quarter_pi

  pub arc_of_refusal : (arc_path_of_c f arc u v).refusal ≡ first swept.refusal (first (nine along.value) (first (nine turned) (first (frames.angle_c f u).refusal (first (nine (dot_c (minus_c arc.center f.origin).value f.axis).value) (first (nine panels) (count_c panels one MOST).refusal)))))
  unfolding arc_path_of_c
  arc_of_refusal = simp all

pub arc_at_refusal : (c : ArcPath) (t : Float) → (arc_path_at c t).refusal ≡ nine (add binary64 c.start (mul binary64 c.turn t))
unfolding arc_path_at
arc_at_refusal c t = simp all

-- ---- a piece
pub piece_of_refusal : (f : Frame) (origin axis start : Vec3) (piece : Checked PieceCurve)
    → (piece_path_of_c f origin axis start piece).refusal ≡ first (nine (dot_c axis f.axis).value) (first (angle_c (dot_c start f.e2).value (dot_c start f.e1).value).refusal (first (nine (dot_c (minus_c origin f.origin).value f.axis).value) piece.refusal))
unfolding piece_path_of_c
piece_of_refusal f origin axis start piece = simp all

pub piece_at_refusal : (c : PiecePath) (t : Float)
    → (piece_path_at c t).refusal ≡ first (rate_c c.run t).refusal (first (nine (piece_path_at c t).value.theta) (first (nine (piece_path_at c t).value.z) (nine (piece_path_at c t).value.turn)))
unfolding piece_path_at
piece_at_refusal c t = simp all

-- ---- how fast a piece runs
pub straight_refusal : (from to : Vec2) (t : Float)
    → (straight_c from to t).refusal ≡ first (nine (sub binary64 to.x from.x)) (first (nine (sub binary64 to.y from.y)) (first (nine (straight_c from to t).value.u) (nine (straight_c from to t).value.v)))
unfolding straight_c
straight_refusal from to t = simp all

pub arc_refusal : (a : ProfileArc) (from to : Vec2) (t : Float)
    → (arc_c a from to t).refusal ≡ first (swung_c a from to t).refusal (first (nine (arc_c a from to t).value.u) (first (nine (arc_c a from to t).value.v) (nine (arc_c a from to t).value.du)))
unfolding arc_c
arc_refusal a from to t = simp all

pub wave_refusal : (w : Wave) (from to : Vec2) (n t : Float)
    → (wave_c w from to n t).refusal ≡ first (nine (wave_c w from to n t).value.u) (v_c w.a w.b w.c (wave_c w from to n t).value.u n).refusal
unfolding wave_c
wave_refusal w from to n t = simp all
