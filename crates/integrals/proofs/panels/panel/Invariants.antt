use Rattle.integrals.specs.Gauss.{pair_at_c}
use Rattle.integrals.specs.FoldLaws.{Reached}
use Rattle.integrals.proofs.panels.panel.Given as goal

-- j pairs are summed
abbrev pub invariant-loop-j : goal.invariant-loop-j
invariant-loop-j g l = Reached (pair_at_c (g.S.Summand.added_c l.of l.h) l.h l.mid) l.fn.s l.j l.a
