use Rattle.std.proofs.Common.{◌≡◌}
use Rattle.answer_lines.specs.Lines.{spelt}
use Rattle.answer_lines.proofs.hex.Given as goal

abbrev pub invariant-loop-i : goal.invariant-loop-i
invariant-loop-i l = l.n ≡ spelt 16 l.line l.at l.i
