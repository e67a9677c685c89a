-- Which notes of a closing suffice.
use Rattle.std.specs.Prelude.{◌≡◌, Bool}
use Rattle.checked.specs.Laws.{rules as checked_rules}
use Rattle.vectors.specs.Laws.{rules as vectors_rules}
use Rattle.integrals.specs.declared.Integrals.{Integrals}
use Rattle.integrals.specs.Sums.{surface_nine}
use Rattle.integrals.specs.Laws.{area_first}
use Rattle.revolutions.specs.Closings.{close_c}

ruleset all = (checked_rules, vectors_rules)

pub close_refusal : (acc : Integrals) (convex : Bool) (s : Integrals) → (close_c acc convex s).refusal ≡ surface_nine (close_c acc convex s).value.surface
unfolding close_c
close_refusal acc convex s = simp all (area_first (close_c acc convex s).value.surface)
