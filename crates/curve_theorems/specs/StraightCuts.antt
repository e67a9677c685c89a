-- How close a straight cut stays to its box. `Rolled::uv_box` gives the box of a piece in the development, and `Rolled::at` its point at t. Of a
-- straight piece, one with neither an arc nor a trace, and for every t from 0 to 1 the point lies inside the box widened by 2 ^ -31 mm on each side
-- (`straight_cuts_stay`). A width does so exactly where it is 2 ^ -33 mm or more (`enough`, `needed`). It is said in whole numbers: the point and the
-- four coordinates of the box, times 2 ^ 1074 (`scaled` and `Between` of crates/float_bounds). What carries it is the limit of what is handed in: no
-- coordinate is above 2 ^ 20 in magnitude. Assumes nothing.
-- Proved in proofs/StraightCuts.antt.
use Rattle.std.specs.Prelude.{ℕ, ◌^◌, ◌≡◌, Float, None}
use Rattle.checked.specs.Checked.{due}
use Rattle.checked.specs.Numbers.{zero, one}
use Rattle.float_bounds.specs.Intervals.{In}
use Rattle.float_bounds.specs.Units.{F64, Between}
use Rattle.vectors.specs.declared.Vec2.{Vec2}
use Rattle.piece_curves.specs.declared.meet_curves.Place.{Place}
use Rattle.piece_boxes.specs.declared.brackets.FlatBox.{FlatBox}
use Rattle.pieces.specs.declared.Rolled.{Rolled}
use Rattle.pieces.specs.Entries.{tests, at_due, uv_box_due}

-- a piece with neither an arc nor a trace, whose ends have f64 numbers for coordinates
pub record Straight (p : Rolled) : Type 0 where
  pub arc : p.arc ≡ None
  pub trace : p.trace ≡ None
  pub from_u : F64 p.from.x
  pub from_v : F64 p.from.y
  pub to_u : F64 p.to.x
  pub to_v : F64 p.to.y

-- q lies inside the box b widened by w units of 2 ^ -1074 on each of its four sides
pub record Inside (w : ℕ) (b : FlatBox) (q : Vec2) : Type 0 where
  pub u : Between w b.low.x q.x b.high.x
  pub v : Between w b.low.y q.y b.high.y

-- neither call is refused, and the point at t lies inside the box so widened
pub record Stays (w : ℕ) (p : Rolled) (t : Float) : Type 0 where
  pub flat : FlatBox
  pub at : Place
  pub box_given : uv_box_due p ≡ due flat
  pub at_given : at_due p t ≡ due at
  pub inside : Inside w flat at.p

-- so it is of every straight piece that is accepted, which is one that passes the tests of what is handed in, and of every t from 0 to 1, both
-- included, and -0
abbrev pub StraightCutsStay : ℕ → Type 0
StraightCutsStay w = (p : Rolled) → Straight p → tests p ≡ 0 → (t : Float) → In zero one t → Stays w p t

-- 2 ^ -31 mm in units of 2 ^ -1074
abbrev pub guard : ℕ
guard = 2 ^ 1043

-- 2 ^ -33 mm
abbrev pub least_guard : ℕ
least_guard = 2 ^ 1041
