-- The arc of an edge: counterclockwise about `axis`, around `center`, from the direction of one
-- point to that of another. Its parts stand on the pages `Sweep`, `Points`, `Extremes`
-- and `Chords`.
use Rattle.checked.specs.Checked.{Checked, ◌>>=◌, given}
use Rattle.vectors.specs.Vectors.{neg_c}
use Rattle.arcs.specs.declared.Arc.{Arc}

-- the same arc run the other way: about the axis turned round
unfoldable pub reversed_c : Arc → Checked Arc
reversed_c arc = do
  axis ← neg_c arc.axis
  given (record { center = arc.center; axis = axis; radius = arc.radius })
