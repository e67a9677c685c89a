-- What is answered of a piece of a development, as numbers.
use Rattle.std.specs.Prelude.{List, [], ◌∷◌, Float}
use Rattle.piece_curves.specs.declared.meet_curves.Place.{Place}
use Rattle.piece_lengths.specs.declared.measures.Measure.{Measure}
use Rattle.piece_boxes.specs.declared.brackets.FlatBox.{FlatBox}

-- the point and its derivative
abbrev pub of_place : Place → List Float
of_place q = q.p.x ∷ q.p.y ∷ q.d.x ∷ q.d.y ∷ []

-- the radius, the angle turned, the length
abbrev pub of_measure : Measure → List Float
of_measure m = m.radius ∷ m.turn ∷ m.length ∷ []

-- the least u, the greatest u, the least v, the greatest v
abbrev pub of_box : FlatBox → List Float
of_box b = b.low.x ∷ b.high.x ∷ b.low.y ∷ b.high.y ∷ []
