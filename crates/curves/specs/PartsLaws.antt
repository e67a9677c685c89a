-- Where no refusal is met, every point by which a piece widens a box is finite. Assumes nothing.
use Rattle.std.specs.Prelude.{Float}
use Rattle.boxes.specs.Boxes.{Sound}
use Rattle.boxes.proofs.Laws.{sound_then}
use Rattle.pieces.specs.declared.Rolled.{Rolled}
use Rattle.pieces.specs.Pieces.{run_c}
use Rattle.piece_boxes.specs.SpaceBoxes as bounds
use Rattle.piece_boxes.specs.SpaceBoxesLaws as bounds_laws
use Rattle.curves.specs.Parts.{piece_c}

pub piece_sound : (p : Rolled) (radius : Float) → Sound (piece_c p radius)
unfolding piece_c
piece_sound p radius =
    sound_then (run_c p).refusal (bounds.points_c p.dev radius (run_c p).value) (λ _.
    bounds_laws.points_sound p.dev radius (run_c p).value)
