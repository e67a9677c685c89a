use mathlib.Core.Path.{◌∙◌, ap}
use Rattle.checked.specs.Told.{failed}
use Rattle.checked.specs.ToldLaws.{failed_and}
use Rattle.checked.proofs.require_drawing.Goals as goal

pub returns : goal.returns
returns c = ap failed c.and.ensures ∙ simp (c.require-numbers.ensures, c.require_chord-tolerance.ensures) at (failed_and c.require-numbers.result c.require_chord-tolerance.result)
