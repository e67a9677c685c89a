use Rattle.checked.specs.ToldLaws.{stops, gives, none_met, value_is, met_is}
use Rattle.checked.specs.Laws.{opened}
use Rattle.piece_boxes.specs.CurveBoxes.{wave_c}
use Rattle.piece_boxes.proofs.curve_boxes.wave_box.Goals as goal

pub returns-in_err-v : goal.returns-in_err-v
unfolding wave_c
returns-in_err-v c = stops _ _ _ c.from_residual.ensures (simp (opened, met_is _ _ c.in_err-v.ensures))

pub returns : goal.returns
unfolding wave_c
returns c =
    let v = c.in_ok-v.ensures in
    gives _ _ (simp (opened, none_met _ _ v)) (simp (c.greatest.ensures, c.least.ensures, value_is _ _ v))
