use Rattle.std.specs.Prelude.{◌≡◌, refl, ◌&&◌, Option, Some, None, is_some}
use Rattle.profile_arcs.specs.declared.ProfileArc.{ProfileArc}
use Rattle.traces.specs.declared.Trace.{Trace}
use Rattle.pieces.specs.Tests.{is_traced, both}
use Rattle.pieces.proofs.parts.are_both.Goals as goal

by : (a : Option ProfileArc) (t : Option Trace) → (is_some a && is_some t) ≡ both a t
unfolding both is_traced
by None t = refl
by (Some a) None = refl
by (Some a) (Some t) = refl

pub returns : goal.returns
returns c = simp (c.is_some-2.ensures, c.is_some.ensures) (by c.args.arc c.args.trace)
