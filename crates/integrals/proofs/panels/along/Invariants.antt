use Rattle.integrals.specs.Gauss.{panel_at_c}
use Rattle.integrals.specs.FoldLaws.{Reached}
use Rattle.integrals.proofs.panels.along.Given as goal

-- i panels are summed
abbrev pub invariant-loop-i : goal.invariant-loop-i
invariant-loop-i g l = Reached (panel_at_c (g.S.Summand.added_c l.of) l.h) l.fn.s l.i l.a
