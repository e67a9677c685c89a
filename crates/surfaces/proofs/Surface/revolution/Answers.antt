use Rattle.surfaces.specs.Entries.{revolution_due}
use Rattle.checked.specs.ToldLaws.{fails_by}
use Rattle.surfaces.proofs.Surface.revolution.Goals as goal

pub returns-in_err-tried : goal.returns-in_err-tried
unfolding revolution_due
returns-in_err-tried c = fails_by _ _ _ _ c.from_residual.ensures c.in_err-tried.ensures
