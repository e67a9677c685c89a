-- The row in which the code keeps the samples of a meet's box.
use Rattle.std.specs.Prelude.{ℕ, ◌<◌, ◌≡◌, List, get_or}
use Rattle.std.specs.Float.{nan}
use Rattle.vectors.specs.declared.Vec2.{Vec2}
use Rattle.vectors.specs.Vectors.{plane}
use Rattle.piece_curves.specs.declared.meet_curves.MeetCurve.{MeetCurve}
use Rattle.piece_boxes.specs.MeetBoxes.{sample_c}

-- it holds the derivatives at the first n places
pub record Stored (c : MeetCurve) (n : ℕ) (slopes : List Vec2) : Type 0 where
  pub held : (j : ℕ) → j < n → get_or slopes j (plane nan nan) ≡ (sample_c c j).value
