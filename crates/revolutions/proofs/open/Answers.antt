use mathlib.Core.Path.{refl}
use Rattle.checked.specs.ToldLaws.{fails_by, passes}
use Rattle.revolutions.specs.Revolutions.{open_due}
use Rattle.revolutions.proofs.open.Goals as goal

pub returns-in_err-require : goal.returns-in_err-require
unfolding open_due
returns-in_err-require c = fails_by _ _ _ _ c.from_residual.ensures (simp c.face_within.ensures at c.in_err-require.ensures)

pub returns : goal.returns
unfolding open_due
returns c = passes _ _ _ (simp c.face_within.ensures at c.in_ok-require.ensures) refl
